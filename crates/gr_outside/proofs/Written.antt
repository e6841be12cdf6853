-- What files tell once one of them was made empty, or longer, by one call or by several.
use Rattle.std.proofs.Common.{◌≡◌, ℕ, List, [], ◌++◌, Option, Some, None, refl, sym, ap, ◌∙◌, subst}
use Rattle.std.specs.Prelude.{IfSome, IsSomeAnd, unwrap_or}
use Rattle.gr_outside.specs.Files.{Named, FilesTold, bytes_of, KeepsOthers, HasWritten}
use Rattle.gr_outside.specs.FileCalls.{Grows}
use Rattle.gr_outside.specs.Memory.{with_file}
use Rattle.gr_outside.proofs.NamedFiles.{bytes_of-with_file, with_file-KeepsOthers}

module _ (before : FilesTold) (files : List Named) (name bytes : List ℕ) (is : files ≡ with_file before.files name bytes) where
  new_bytes : bytes_of files name ≡ Some bytes
  new_bytes = ap (λ (fs : List Named). bytes_of fs name) is ∙ bytes_of-with_file before.files name bytes

  others_kept : KeepsOthers name before.files files
  others_kept other differs = ap (λ (fs : List Named). bytes_of fs other) is ∙ with_file-KeepsOthers before.files name bytes other differs

  pub with_file-HasWritten : (begun : List ℕ) → begun ≡ name → HasWritten before name bytes (record { files = files; failed = before.failed; begun = Some begun })
  with_file-HasWritten begun named = record {
    written = new_bytes;
    others = others_kept;
    begun = ap (λ (b : List ℕ). Some b) named;
    failed = refl;
  }

  pub with_file-Grows : (more : List ℕ) → before.begun ≡ Some name → bytes ≡ unwrap_or (bytes_of before.files name) [] ++ more → Grows before more (record before { files = files })
  with_file-Grows more begun grown = record {
    grown = let P : Option (List ℕ) → Type 0 = λ o. IfSome o (λ n. bytes_of files n ≡ Some (unwrap_or (bytes_of before.files n) [] ++ more)) in
        subst P (sym begun) (new_bytes ∙ ap (λ (b : List ℕ). Some b) grown);
    others = let P : Option (List ℕ) → Type 0 = λ o. IfSome o (λ n. KeepsOthers n before.files files) in subst P (sym begun) others_kept;
    begun = refl;
    failed = refl;
  }

module _ (before now after : FilesTold) (name bytes more : List ℕ) (so_far : HasWritten before name bytes now) (grows : Grows now more after) where
  same_name : (P : List ℕ → Type 0) → IfSome now.begun P → P name
  same_name P held = subst (λ (o : Option (List ℕ)). IfSome o P) so_far.begun held

  -- a piece more was added
  pub HasWritten-Grows : HasWritten before name (bytes ++ more) after
  HasWritten-Grows =
      let longer : bytes_of after.files name ≡ Some (unwrap_or (bytes_of now.files name) [] ++ more) = same_name (λ n. bytes_of after.files n ≡ Some (unwrap_or (bytes_of now.files n) [] ++ more)) grows.grown in
      let kept : KeepsOthers name now.files after.files = same_name (λ n. KeepsOthers n now.files after.files) grows.others in
      record {
        written = longer ∙ ap (λ (o : Option (List ℕ)). Some (unwrap_or o [] ++ more)) so_far.written;
        others = λ other differs. kept other differs ∙ so_far.others other differs;
        begun = grows.begun ∙ so_far.begun;
        failed = grows.failed ∙ so_far.failed;
      }

-- where content is told, of a piece that was added and of one that was refused
pub told-grows : (before now after : Option FilesTold) (name bytes more : List ℕ)
    → IfSome before (λ t. IsSomeAnd now (HasWritten t name bytes)) → IfSome now (λ t. IsSomeAnd after (Grows t more)) → IfSome before (λ t. IsSomeAnd after (HasWritten t name (bytes ++ more)))
told-grows None now after name bytes more so_far grows = tt
told-grows (Some b) None after name bytes more so_far grows = absurd so_far
told-grows (Some b) (Some n) None name bytes more so_far grows = absurd grows
told-grows (Some b) (Some n) (Some a) name bytes more so_far grows = HasWritten-Grows b n a name bytes more so_far grows

pub told-refused : (before now after : Option FilesTold) (P : FilesTold → FilesTold → Type 0)
    → IfSome before (λ t. IsSomeAnd now (P t)) → IfSome now (λ t. after ≡ Some t) → IfSome before (λ t. IsSomeAnd after (P t))
told-refused None now after P so_far same = tt
told-refused (Some b) None after P so_far same = absurd so_far
told-refused (Some b) (Some n) after P so_far same = subst (λ (o : Option FilesTold). IsSomeAnd o (P b)) (sym same) so_far
