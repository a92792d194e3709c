-- `storage::linked::Lookups::describe` meets its contract. Assumes nothing.
use mathlib.Core.Path.{refl, sym}
use Rattle.storage.proofs.Descriptions
use Rattle.storage.proofs.linked.Lookups.describe.Goals as goal

pub returns-then-bytes-eq-SPARSE_RECORD_BYTES : goal.returns-then-bytes-eq-SPARSE_RECORD_BYTES
returns-then-bytes-eq-SPARSE_RECORD_BYTES c = (
  record {
    is = rw (c.first_length.ensures.0, c.read32.ensures.is, c.read16-table.ensures.is, c.read32-block.ensures.is, c.read32-then-bytes-eq-SPARSE_RECORD_BYTES.ensures.is) (sym (Descriptions.sparse_says _ c.if-bytes-eq-SPARSE_RECORD_BYTES.true _));
    small = record { length = c.read32.ensures.small; entries = c.read32-then-bytes-eq-SPARSE_RECORD_BYTES.ensures.small };
  },
  c.first_length.ensures.1,
)

pub returns : goal.returns
returns c = (
  record {
    is = rw (c.read32-2.ensures.is, c.read32-3.ensures.is, c.read32-4.ensures.is, c.read32-5.ensures.is, c.read16.ensures.is) (sym (Descriptions.full_says _ c.if-bytes-eq-SPARSE_RECORD_BYTES.false _));
    small = record { length = c.read32-2.ensures.small; entries = c.read32-5.ensures.small };
  },
  refl,
)
