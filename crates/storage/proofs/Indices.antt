-- A walk over tables and blocks, by their indices: it stops at the first one that breaks a rule. Assumes nothing.
use Prim.Native.Nat.{ℕ, zero, suc, ◌+◌, ◌*◌, ◌-◌, ◌/◌, ◌%◌, ◌<◌, ◌≤◌, min}
use native.Mathlib.Nat.{suc-ne-zero, suc-mul, mul-le-mul_right, div-eq_of_lt-le, mod-eq-sub-div-mul, zero-mul, lt_of_mul-lt-mul_right}
use native.Mathlib.Omega.{arith}
use native.Mathlib.Numerals.{add-one}
use mathlib.Core.Path.{◌≡◌, refl, sym, ap, ◌∙◌}
use mathlib.Core.Logic.{◌↔◌, ◌⊎◌, inl, inr}
use mathlib.Core.List.{List, [], ◌∷◌, ◌++◌}
use Rattle.answer.specs.Links.{link_after, links_after}
use Rattle.answer.proofs.Tests.{same?, le?}
use Rattle.answer.proofs.Links.{link_next, links_snoc, length_links}
use Rattle.storage.specs.Tables.{linked_bytes, next_table, block_ref, next_of, tables_after, table_fault, linked_block_fault}
use Rattle.storage.specs.Walks.{share, Walk, joined, blocks_from, tables_from, chain_of}
use Rattle.storage.specs.Links.{table_at, block_at, bytes_before, Needed, taken}
use Rattle.storage.specs.declared.description.Description.{Description}
use Rattle.storage.proofs.Walks.{blocks_none, blocks_full, blocks_fault, blocks_next, then_stops, then_goes, tables_full, tables_many, tables_fault, tables_next}

-- ---- What is left

-- how many bytes are left where block j begins
abbrev pub left_at : Description → ℕ → ℕ
left_at d j = d.length - bytes_before d j

left_suc : (d : Description) (j : ℕ) → left_at d j - share d j (left_at d j) ≡ left_at d (suc j)
unfolding share bytes_before
left_suc d zero =
    let n : share d zero (left_at d zero) ≡ min d.first (left_at d zero) = refl in
    omega (arith, zero-mul d.block)
left_suc d (suc j) =
    let n : share d (suc j) (left_at d (suc j)) ≡ min d.block (left_at d (suc j)) = refl in
    let here : bytes_before d (suc j) ≡ d.first + j * d.block = refl in
    let next : bytes_before d (suc (suc j)) ≡ d.first + suc j * d.block = refl in
    omega (arith, suc-mul j d.block)

pub left_next : (d : Description) (j : ℕ) → left_at d j - share d j (left_at d j) ≡ left_at d (j + 1)
left_next d j = rw add-one (left_suc d j)

pub before_mono : (d : Description) (j k : ℕ) → j ≤ k → bytes_before d j ≤ bytes_before d k
unfolding bytes_before
before_mono d zero k h = omega arith
before_mono d (suc j) zero h = absurd (omega arith)
before_mono d (suc j) (suc k) h = omega (arith, mul-le-mul_right {m = j} {n = k} d.block (omega arith))

pub needed_before : (d : Description) (j k : ℕ) → j ≤ k → Needed d k → Needed d j
needed_before d j k h n = omega (arith, before_mono d j k h)

module _ (s : List ℕ) (d : Description) where
  -- the numbers of the first rules that table i and block j break
  abbrev pub table_number : ℕ → ℕ
  table_number i = table_fault s d (tables_after s i d.table) (table_at s d i)

  abbrev pub block_number : ℕ → ℕ
  block_number j = linked_block_fault s d.sparse (block_at s d j) (taken d j)

  -- an entry of table i names a block
  pub block_entry : (i entry : ℕ) → entry < d.entries → block_at s d (i * d.entries + entry) ≡ block_ref (linked_bytes s (table_at s d i)) entry
  block_entry i entry h =
      let j = i * d.entries + entry in
      let quotient : j / d.entries ≡ i = div-eq_of_lt-le d.entries (omega arith) (omega (arith, suc-mul i d.entries)) in
      let rest : j % d.entries ≡ entry = mod-eq-sub-div-mul j d.entries ∙ ap (λ q. j - q * d.entries) quotient ∙ omega arith in
      rw (quotient, rest)

  -- ---- The blocks of a table

  -- what a walk over the blocks from j up to an end comes to: none breaks a rule, or the first that does
  pub record Passed (w : Walk) (j end : ℕ) : Type 0 where
    pub fault : w.fault ≡ 0
    pub left : w.left ≡ left_at d end
    blocks : (m : ℕ) → j ≤ m → m < end → Needed d m → block_number m ≡ 0

  pub record Stopped (w : Walk) (j end : ℕ) : Type 0 where
    pub fault : w.fault ≡ 0 → ⊥
    from : j ≤ w.index
    below : w.index < end
    needed : Needed d w.index
    blocks : (m : ℕ) → j ≤ m → m < w.index → block_number m ≡ 0
    number : block_number w.index ≡ w.fault

  -- one block more before it
  module _ (v w : Walk) (j end : ℕ) (fault : v.fault ≡ w.fault) (index : v.index ≡ w.index) (left : v.left ≡ w.left) (sound : block_number j ≡ 0) where
    passed_more : Passed w (j + 1) end → Passed v j end
    passed_more p =
        record {
          fault = fault ∙ p.fault;
          left = left ∙ p.left;
          blocks = λ m l u n. elim (same? j m) [ inl e ↦ rw (← e) sound | inr e ↦ p.blocks m (omega arith) u n ];
        }

    stopped_more : Stopped w (j + 1) end → Stopped v j end
    stopped_more p =
        record {
          fault = λ z. p.fault (sym fault ∙ z);
          from = omega (arith, p.from);
          below = omega (arith, p.below);
          needed = rw index p.needed;
          blocks = λ m l u. elim (same? j m) [ inl e ↦ rw (← e) sound | inr e ↦ p.blocks m (omega arith) (omega arith) ];
          number = rw (index, fault) p.number;
        }

  pub blocks_judged : (i k entry j left : ℕ) → entry + k ≡ d.entries → j ≡ i * d.entries + entry → left ≡ left_at d j
      → let w = blocks_from s d (linked_bytes s (table_at s d i)) k entry j left in
      let end = i * d.entries + d.entries in Passed w j end ⊎ Stopped w j end
  blocks_judged i zero entry j left upto at e =
      let w = blocks_none s d (linked_bytes s (table_at s d i)) entry j left in
      let end : j ≡ i * d.entries + d.entries = omega arith in
      inl (record { fault = ap (λ x. x.fault) w; left = ap (λ x. x.left) w ∙ e ∙ ap (left_at d) end; blocks = λ m l u n. absurd (omega arith) })
  blocks_judged i (suc k) entry j left upto at e =
      let t = linked_bytes s (table_at s d i) in
      let end = i * d.entries + d.entries in
      elim (same? left 0) [
        | inl z ↦
            let w = blocks_full s d t entry j left (suc k) z in
            let later = before_mono d j end (omega arith) in
            inl (record {
              fault = ap (λ x. x.fault) w;
              left = ap (λ x. x.left) w ∙ omega (arith, later);
              blocks = λ m l u n. absurd (omega (arith, needed_before d j m l n));
            })
        | inr z ↦
            let number : block_number j ≡ linked_block_fault s d.sparse (block_ref t entry) (share d j left) =
            ap (λ r. linked_block_fault s d.sparse r (taken d j)) (ap (block_at s d) at ∙ block_entry i entry (omega arith)) ∙ ap (λ n. linked_block_fault s d.sparse (block_ref t entry) (share d j n)) (sym e) in
            elim (same? (linked_block_fault s d.sparse (block_ref t entry) (share d j left)) 0) [
              | inr f ↦
                  let w = blocks_fault s d t entry j left k z f in
                  let at_j : (blocks_from s d t (suc k) entry j left).index ≡ j = ap (λ x. x.index) w in
                  let its : (blocks_from s d t (suc k) entry j left).fault ≡ linked_block_fault s d.sparse (block_ref t entry) (share d j left) = ap (λ x. x.fault) w in
                  inr (record {
                    fault = λ q. f (sym its ∙ q);
                    from = omega (arith, at_j);
                    below = omega (arith, at_j);
                    needed = rw at_j (omega arith);
                    blocks = λ m l u. absurd (omega (arith, at_j));
                    number = rw (at_j, its) number;
                  })
              | inl f ↦
                  let w = blocks_next s d t entry j left k z f in
                  let rest : left - share d j left ≡ left_at d (j + 1) = ap (λ n. n - share d j n) e ∙ left_next d j in
                  let v = blocks_from s d t (suc k) entry j left in
                  let u = blocks_from s d t k (entry + 1) (j + 1) (left - share d j left) in
                  let fault : v.fault ≡ u.fault = ap (λ x. x.fault) w in
                  let index : v.index ≡ u.index = ap (λ x. x.index) w in
                  let same : v.left ≡ u.left = ap (λ x. x.left) w in
                  elim (blocks_judged i k (entry + 1) (j + 1) (left - share d j left) (omega arith) (omega arith) rest) [
                    | inl p ↦ inl (passed_more v u j end fault index same (number ∙ f) p)
                    | inr p ↦ inr (stopped_more v u j end fault index same (number ∙ f) p)
                  ]
            ]
      ]

  -- ---- The tables

  -- every one that is needed breaks no rule
  pub record AllPass : Type 0 where
    pub tables : (m : ℕ) → Needed d (m * d.entries) → (m < 256) × (table_number m ≡ 0)
    pub blocks : (m : ℕ) → Needed d m → block_number m ≡ 0

  -- the first that breaks one is table i, which breaks it by its number or is one too many
  pub record AtTable (n i : ℕ) : Type 0 where
    pub fault : n ≡ 0 → ⊥
    pub needed : Needed d (i * d.entries)
    pub tables : (m : ℕ) → m < i → table_number m ≡ 0
    pub blocks : (m : ℕ) → m < i * d.entries → block_number m ≡ 0
    pub number : ((i < 256) × (table_number i ≡ n)) ⊎ ((i ≡ 256) × (n ≡ 27))

  -- or block j
  pub record AtBlock (n j : ℕ) : Type 0 where
    pub fault : n ≡ 0 → ⊥
    pub needed : Needed d j
    pub tables : (m : ℕ) → m * d.entries ≤ j → (m < 256) × (table_number m ≡ 0)
    pub blocks : (m : ℕ) → m < j → block_number m ≡ 0
    pub number : block_number j ≡ n

  abbrev Judged : Walk → Type 0
  Judged w = ((w.fault ≡ 0) × AllPass) ⊎ (AtTable w.fault w.index ⊎ AtBlock w.fault w.index)

  judged_as : (v w : Walk) → v.fault ≡ w.fault → v.index ≡ w.index → Judged w → Judged v
  judged_as v w fault index j = rw (fault, index) j

  -- those before table i that are needed break no rule
  record Before (i : ℕ) : Type 0 where
    tables : (m : ℕ) → m < i → Needed d (m * d.entries) → table_number m ≡ 0
    blocks : (m : ℕ) → m < i * d.entries → Needed d m → block_number m ≡ 0

  rows : (m i : ℕ) → m ≤ i → m * d.entries ≤ i * d.entries
  rows m i h = mul-le-mul_right {m = m} {n = i} d.entries h

  module _ (i : ℕ) (few : i ≤ 256) (b : Before i) where
    -- where no bytes are left no more are needed
    all_pass : left_at d (i * d.entries) ≡ 0 → AllPass
    all_pass z =
        record {
          tables = λ m n. elim (le? i m) [
            | inl l ↦ absurd (omega (arith, needed_before d (i * d.entries) (m * d.entries) (rows i m l) n))
            | inr l ↦ (omega arith, b.tables m (omega arith) n)
          ];
          blocks = λ m n. elim (le? (i * d.entries) m) [
            | inl l ↦ absurd (omega (arith, needed_before d (i * d.entries) m l n))
            | inr l ↦ b.blocks m (omega arith) n
          ];
        }

    module _ (more : left_at d (i * d.entries) ≡ 0 → ⊥) where
      needed_here : Needed d (i * d.entries)
      needed_here = omega (arith, more)

      at_table : (n : ℕ) → (n ≡ 0 → ⊥) → ((i < 256) × (table_number i ≡ n)) ⊎ ((i ≡ 256) × (n ≡ 27)) → AtTable n i
      at_table n f e =
          record {
            fault = f;
            needed = needed_here;
            tables = λ m l. b.tables m l (needed_before d (m * d.entries) (i * d.entries) (rows m i (omega arith)) needed_here);
            blocks = λ m l. b.blocks m l (needed_before d m (i * d.entries) (omega arith) needed_here);
            number = e;
          }

      -- table i breaks no rule
      module _ (less : i < 256) (sound : table_number i ≡ 0) (v : Walk) where
        at_block : Stopped v (i * d.entries) (i * d.entries + d.entries) → AtBlock v.fault v.index
        at_block p =
            record {
              fault = p.fault;
              needed = p.needed;
              tables = λ m l. table m l (lt_of_mul-lt-mul_right d.entries {m = m} {n = suc i} (omega (arith, p.below, suc-mul i d.entries)));
              blocks = λ m l. elim (le? (i * d.entries) m) [
                | inl h ↦ p.blocks m h l
                | inr h ↦ b.blocks m (omega arith) (needed_before d m v.index (omega arith) p.needed)
              ];
              number = p.number;
            }
          where
            table : (m : ℕ) → m * d.entries ≤ v.index → m < suc i → (m < 256) × (table_number m ≡ 0)
            table m l h = elim (same? m i) [
              | inl e ↦ (omega arith, rw e sound)
              | inr e ↦ (omega arith, b.tables m (omega arith) (needed_before d (m * d.entries) v.index l p.needed))
            ]

        before_next : Passed v (i * d.entries) (i * d.entries + d.entries) → Before (i + 1)
        before_next p =
            let more_rows : (i + 1) * d.entries ≡ i * d.entries + d.entries = rw add-one (suc-mul i d.entries) in
            record {
              tables = λ m l n. elim (same? m i) [ inl e ↦ rw e sound | inr e ↦ b.tables m (omega arith) n ];
              blocks = λ m l n. elim (le? (i * d.entries) m) [
                | inl h ↦ p.blocks m h (omega (arith, more_rows)) n
                | inr h ↦ b.blocks m (omega arith) n
              ];
            }

  tables_judged : (k i : ℕ) → i + k ≡ 256 → Before i → (left : ℕ) → left ≡ left_at d (i * d.entries)
      → Judged (tables_from s d k (tables_after s i d.table) (table_at s d i) (i * d.entries) left)
  tables_judged zero i upto b left e =
      let many = length_links (next_of s) i d.table in
      elim (same? left 0) [
        | inl z ↦ inl (
          ap (λ x. x.fault) (tables_full s d (tables_after s i d.table) (table_at s d i) (i * d.entries) left 0 z),
          all_pass i (omega arith) b (sym e ∙ z),
        )
        | inr z ↦
            let w = tables_many s d (tables_after s i d.table) (table_at s d i) (i * d.entries) left z in
            inr (inl (rw (ap (λ x. x.fault) w, ap (λ x. x.index) w, many) (at_table i (omega arith) b (λ q. z (e ∙ q)) 27 (suc-ne-zero 26) (inr (omega arith, refl)))))
      ]
  tables_judged (suc k) i upto b left e =
      let before = tables_after s i d.table in
      let ref = table_at s d i in
      let j = i * d.entries in
      let w = tables_from s d (suc k) before ref j left in
      let many = length_links (next_of s) i d.table in
      elim (same? left 0) [
        | inl z ↦ inl (ap (λ x. x.fault) (tables_full s d before ref j left (suc k) z), all_pass i (omega arith) b (sym e ∙ z))
        | inr z ↦ elim (same? (table_number i) 0) [
          | inr f ↦
              let q = tables_fault s d before ref j left z k f in
              inr (inl (rw (ap (λ x. x.fault) q, ap (λ x. x.index) q, many) (at_table i (omega arith) b (λ h. z (e ∙ h)) (table_number i) f (inl (omega arith, refl)))))
          | inl f ↦
              let t = linked_bytes s ref in
              let v = blocks_from s d t d.entries 0 j left in
              let onward = tables_from s d k (before ++ (ref ∷ [])) (next_table t) (j + d.entries) v.left in
              let q = tables_next s d before ref j left z k f in
              elim (blocks_judged i d.entries 0 j left (omega arith) (omega arith) e) [
                | inr p ↦
                    let h = q ∙ then_stops v onward p.fault in
                    judged_as w v (ap (λ x. x.fault) h) (ap (λ x. x.index) h) (inr (inr (at_block i (omega arith) b (λ g. z (e ∙ g)) (omega arith) f v p)))
                | inl p ↦
                    let h = q ∙ then_goes v onward p.fault in
                    let rows_next : (i + 1) * d.entries ≡ j + d.entries = rw add-one (suc-mul i d.entries) in
                    let left_is : v.left ≡ left_at d ((i + 1) * d.entries) = p.left ∙ ap (left_at d) (sym rows_next) in
                    let r = tables_judged k (i + 1) (omega arith) (before_next i (omega arith) b (λ g. z (e ∙ g)) (omega arith) f v p) v.left left_is in
                    let to : tables_from s d k (tables_after s (i + 1) d.table) (table_at s d (i + 1)) ((i + 1) * d.entries) v.left ≡ onward =
                    rw (links_snoc (next_of s) i d.table, link_next (next_of s) i d.table, rows_next) in
                    judged_as w (tables_from s d k (tables_after s (i + 1) d.table) (table_at s d (i + 1)) ((i + 1) * d.entries) v.left)
                    (ap (λ x. x.fault) (h ∙ ap (joined v.bytes) (sym to))) (ap (λ x. x.index) (h ∙ ap (joined v.bytes) (sym to))) r
              ]
        ]
      ]

  -- the whole chain
  chain_judged : Judged (chain_of s d)
  unfolding chain_of link_after links_after bytes_before
  chain_judged =
      let none : 0 * d.entries ≡ 0 = zero-mul d.entries in
      let b : Before 0 = record { tables = λ m l n. absurd (omega arith); blocks = λ m l n. absurd (omega arith) } in
      let start : bytes_before d 0 ≡ 0 = refl in
      let all : d.length ≡ left_at d 0 = omega (arith, start) in
      let left : d.length ≡ left_at d (0 * d.entries) = all ∙ ap (left_at d) (sym none) in
      rw none at (tables_judged 256 0 refl b d.length left)

  -- ---- One first fault

  -- where the first fault is, by the index of a table or block
  abbrev pub First : ℕ → ℕ → Type 0
  First n x = AtTable n x ⊎ AtBlock n x

  -- that table breaks a rule
  table_broken : (n i : ℕ) → AtTable n i → (i < 256) × (table_number i ≡ 0) → ⊥
  table_broken n i t s = elim t.number [ inl e ↦ t.fault (sym e.1 ∙ s.1) | inr e ↦ omega (arith, s.0, e.0) ]

  pub table_few : (n i : ℕ) → AtTable n i → i ≤ 256
  table_few n i t = elim t.number [ inl e ↦ omega (arith, e.0) | inr e ↦ omega (arith, e.0) ]

  none_first : AllPass → (n x : ℕ) → First n x → ⊥
  none_first a n x (inl t) = table_broken n x t (a.tables x t.needed)
  none_first a n x (inr t) = t.fault (sym t.number ∙ a.blocks x t.needed)

  table_number_lem : (n m i : ℕ) → AtTable n i → AtTable m i → n ≡ m
  table_number_lem n m i t u =
      elim t.number [
        | inl e ↦ elim u.number [ inl f ↦ sym e.1 ∙ f.1 | inr f ↦ absurd (omega (arith, e.0, f.0)) ]
        | inr e ↦ elim u.number [ inl f ↦ absurd (omega (arith, e.0, f.0)) | inr f ↦ e.1 ∙ sym f.1 ]
      ]

  table_before : (n m i k : ℕ) → AtTable n i → AtTable m k → i < k → ⊥
  table_before n m i k t u l = table_broken n i t (omega (arith, table_few m k u), u.tables i l)

  table_block : (n m i j : ℕ) → AtTable n i → AtBlock m j → ⊥
  table_block n m i j t u = elim (le? (i * d.entries) j) [ inl l ↦ table_broken n i t (u.tables i l) | inr l ↦ u.fault (sym u.number ∙ t.blocks j (omega arith)) ]

  block_before : (n m j k : ℕ) → AtBlock n j → AtBlock m k → j < k → ⊥
  block_before n m j k t u l = t.fault (sym t.number ∙ u.blocks j l)

  first_once : (n m x y : ℕ) → First n x → First m y → (n ≡ m) × (x ≡ y)
  first_once n m x y (inl t) (inl u) =
      elim (same? x y) [
        | inl e ↦ (table_number_lem n m y (rw e at t) u, e)
        | inr e ↦ elim (le? x y) [ inl l ↦ absurd (table_before n m x y t u (omega arith)) | inr l ↦ absurd (table_before m n y x u t (omega arith)) ]
      ]
  first_once n m x y (inl t) (inr u) = absurd (table_block n m x y t u)
  first_once n m x y (inr t) (inl u) = absurd (table_block m n y x u t)
  first_once n m x y (inr t) (inr u) =
      elim (same? x y) [
        | inl e ↦ (sym t.number ∙ rw e u.number, e)
        | inr e ↦ elim (le? x y) [ inl l ↦ absurd (block_before n m x y t u (omega arith)) | inr l ↦ absurd (block_before m n y x u t (omega arith)) ]
      ]

  first_positive : (n x : ℕ) → First n x → n ≡ 0 → ⊥
  first_positive n x (inl t) = t.fault
  first_positive n x (inr t) = t.fault

  -- a walk has no fault exactly if all pass, and a fault and an index exactly if that is the first
  pub walked_sound : ((chain_of s d).fault ≡ 0) ↔ AllPass
  walked_sound = (
    (λ e. elim chain_judged [ inl a ↦ a.1 | inr f ↦ absurd (first_positive (chain_of s d).fault (chain_of s d).index f e) ]),
    (λ a. elim chain_judged [ inl b ↦ b.0 | inr f ↦ absurd (none_first a (chain_of s d).fault (chain_of s d).index f) ]),
  )

  pub walked_first : (n x : ℕ) → (((chain_of s d).fault ≡ n) × ((chain_of s d).index ≡ x) × (n ≡ 0 → ⊥)) ↔ First n x
  walked_first n x = (
    (λ h. elim chain_judged [ inl a ↦ absurd (h.2 (sym h.0 ∙ a.0)) | inr f ↦ rw (h.0, h.1) at f ]),
    (λ f. elim chain_judged [
      | inl a ↦ absurd (none_first a.1 n x f)
      | inr g ↦ let e = first_once (chain_of s d).fault n (chain_of s d).index x g f in (e.0, e.1, first_positive n x f)
    ]),
  )
