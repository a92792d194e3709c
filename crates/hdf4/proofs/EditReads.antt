-- The claims that join edits and reading: what view and copy give after a granted edit. Assumes nothing.
use Prim.Native.Nat.{ℕ, ◌<◌, ◌≤◌}
use mathlib.Core.Path.{◌≡◌, sym, ap, ◌∙◌}
use mathlib.Core.Bool.{false}
use mathlib.Core.List.{List, [], ◌∷◌, ◌++◌}
use lib.ListN.{length, take, drop}
use Rattle.answer.specs.Answer.{grant}
use Rattle.directory.specs.Slots.{tag_at}
use Rattle.directory.proofs.Claims.{find_found, find_absent}
use Rattle.directory.proofs.Named.{granted_opens}
use Rattle.storage.specs.Elements.{extended_at, start_at}
use Rattle.storage.specs.Views.{view_of, bytes_of}
use Rattle.storage.proofs.Elements.{plain_tag}
use Rattle.storage.proofs.Views.{granted_view, bytes_granted}
use Rattle.storage.proofs.Claims.{view_plain, view_absent, copy_plain, copy_absent}
use Rattle.journal.specs.Outcomes.{Outcome, granted}
use Rattle.journal.specs.Trailers.{named}
use Rattle.journal.specs.Buffers.{image_in, add_in, replace_in, remove_in}
use Rattle.journal.specs.History.{remove, edited}
use Rattle.journal.specs.Rules.{EditTag}
use Rattle.journal.specs.EditRules.{ReadsBack}
use Rattle.journal.proofs.Buffers.{inside}
use Rattle.journal.proofs.EditClaims.{added_reads, replaced_reads, removed_absent, stays_accepted}
use Rattle.journal.proofs.RuleClaims.{add_granted, replace_granted, remove_granted}
use Rattle.hdf4.specs.EditReads.{GivesContent, GivesNothing}

-- ---- An element that is found under a tag that edits take

edit_plain : (s : List ℕ) (p tag : ℕ) → tag_at s p ≡ tag → EditTag tag → extended_at s p ≡ false
edit_plain s p tag is good = (plain_tag s p).1 (rw is good.3)

reads_given : (t : List ℕ) (tag ref : ℕ) (content : List ℕ) → ReadsBack t tag ref content → EditTag tag → GivesContent t tag ref content
reads_given t tag ref content r good =
    let p = r.slot in
    let v = view_plain t tag ref p (granted_opens t tag ref p r.found) (find_found t tag ref p r.found).0 r.stored (edit_plain t p tag r.tag_is good) in
    let is : bytes_of t (view_of t tag ref) ≡ content = v.1 ∙ r.content_is in
    let size = sym (granted_view t tag ref _ _ v.0).1.long ∙ ap length (sym (bytes_granted t (view_of t tag ref) _ _ v.0) ∙ is) in
    let viewed = v.0 ∙ ap (λ n. grant (start_at t p ∷ n ∷ [])) size in
    record {
      offset = start_at t p;
      viewed = viewed;
      part_is = is;
      copied = λ out fits. (copy_plain t tag ref _ _ out viewed fits).0;
      copy_is = λ out fits. (copy_plain t tag ref _ _ out viewed fits).1 ∙ ap (λ x. x ++ drop (length content) out) is;
    }

-- ---- The claims

module _ (buffer : List ℕ) (n desk tag ref : ℕ) (t : List ℕ) where
  -- the image is the first n bytes of the buffer
  from_image : (o : Outcome) → n ≤ length buffer → image_in buffer n o ≡ granted t → o ≡ granted t
  from_image o fits e = sym (inside buffer n o fits) ∙ e

  -- after a granted add, view and copy of the file give the content
  pub added_given : (content : List ℕ) → tag < 65536 → ref < 65536 → add_in buffer n desk tag ref content ≡ granted t → GivesContent t tag ref content
  unfolding add_in
  added_given content b₁ b₂ e =
      let h = (add_granted buffer n desk tag ref content).0 (t, e) in
      reads_given t tag ref content (added_reads (take n buffer) (length buffer) (named desk) tag ref content t b₁ b₂ (from_image _ h.0 e)) h.1.1.0

  -- after a granted replace too
  pub replaced_given : (content : List ℕ) → tag < 65536 → ref < 65536 → replace_in buffer n desk tag ref content ≡ granted t → GivesContent t tag ref content
  unfolding replace_in
  replaced_given content b₁ b₂ e =
      let h = (replace_granted buffer n desk tag ref content).0 (t, e) in
      reads_given t tag ref content (replaced_reads (take n buffer) (length buffer) (named desk) tag ref content t b₁ b₂ (from_image _ h.0 e)) h.1.1.0

  -- after a granted remove both answer 11
  pub removed_given : tag < 65536 → ref < 65536 → remove_in buffer n desk tag ref ≡ granted t → GivesNothing t tag ref
  unfolding remove_in edited
  removed_given b₁ b₂ e =
      let h = (remove_granted buffer n desk tag ref).0 (t, e) in
      let made = from_image _ h.0 e in
      let opens = stays_accepted (take n buffer) (length buffer) (named desk) (remove tag ref) t (b₁, b₂) made in
      let none = (find_absent t tag ref opens).0 (removed_absent (take n buffer) (length buffer) (named desk) tag ref t made) in
      record { viewed = view_absent t tag ref opens none; copied = λ room. copy_absent t tag ref room opens none }
