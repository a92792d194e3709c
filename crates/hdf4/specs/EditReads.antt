-- What is read of an element after an edit of it. Assumes nothing.
use Rattle.std.specs.Prelude.{ℕ, ◌≤◌, ◌≡◌, List, [], ◌∷◌, ◌++◌, length, drop}
use Rattle.answer.specs.Answer.{grant, refuse}
use Rattle.storage.specs.Views.{view_of, bytes_of}
use Rattle.storage.specs.Copies.{copy_of, copy_after}

-- a view gives the content as a part of the file, and a copy lays it over the front of any buffer that has room
pub record GivesContent (file : List ℕ) (tag ref : ℕ) (content : List ℕ) : Type 0 where
  pub offset : ℕ
  pub viewed : view_of file tag ref ≡ grant (offset ∷ length content ∷ [])
  pub part_is : bytes_of file (view_of file tag ref) ≡ content
  pub copied : (out : List ℕ) → length content ≤ length out → copy_of file tag ref (length out) ≡ grant (length content ∷ 0 ∷ [])
  pub copy_is : (out : List ℕ) → length content ≤ length out → copy_after file tag ref out ≡ content ++ drop (length content) out

-- both answer that there is no such element
pub record GivesNothing (file : List ℕ) (tag ref : ℕ) : Type 0 where
  pub viewed : view_of file tag ref ≡ refuse 2 11 0
  pub copied : (room : ℕ) → copy_of file tag ref room ≡ refuse 2 11 0
