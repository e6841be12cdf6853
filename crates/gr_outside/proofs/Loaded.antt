-- What files tell after a load.
use Rattle.std.proofs.Common.{◌≡◌, Bool, false, List, [], length, ◌≤◌, ℕ, Option, Some, refl, sym, ap, ◌∙◌, subst}
use Rattle.std.specs.Prelude.{Result, Ok, Err, OnOk, OnErr, IsErrOf, if◌then◌else◌, unwrap_or}
use Rattle.gr_outside.specs.declared.faults.LoadFault.{LoadFault}
use Rattle.gr_outside.specs.declared.faults.LoadFault.TheVariants.{Failed, TooLong, OutOfMemory}
use Rattle.std.specs.Io.{StartsWith}
use Rattle.gr_outside.specs.Files.{FilesTold}
use Rattle.gr_outside.specs.FileCalls.{failed_load, after_load}

failed_load-other : {T : Type 0} (result : Result T LoadFault) → (IsErrOf result Failed → ⊥) → failed_load result ≡ false
failed_load-other (Ok v) other = refl
failed_load-other (Err Failed) other = absurd (other refl)
failed_load-other (Err TooLong) other = refl
failed_load-other (Err OutOfMemory) other = refl

kept : {T : Type 0} (t : FilesTold) (name : List ℕ) (result : Result T LoadFault) → failed_load result ≡ false → Some t ≡ Some (after_load t name result)
kept t name result is = ap (λ (b : Bool). Some (record t { failed = if b then Some name else t.failed })) (sym is)

pub told-other : {T : Type 0} (t : FilesTold) (name : List ℕ) (result : Result T LoadFault) → (IsErrOf result Failed → ⊥) → Some t ≡ Some (after_load t name result)
told-other t name result other = kept t name result (failed_load-other result other)

pub whole-found : {T E : Type 0} (r : Result T E) (limit : ℕ) (into bytes : List ℕ) (told : Option (List ℕ)) → told ≡ Some bytes → OnOk r ((length into ≤ limit) × (into ≡ bytes)) → OnOk r ((length into ≤ limit) × (told ≡ Some into))
whole-found (Ok v) limit into bytes told is whole = (whole.0, is ∙ ap Some (sym whole.1))
whole-found (Err e) limit into bytes told is whole = whole

pub part-found : {T E : Type 0} (r : Result T E) (into bytes : List ℕ) (told : Option (List ℕ)) → told ≡ Some bytes → StartsWith bytes into → OnErr r (StartsWith (unwrap_or told []) into)
part-found (Ok v) into bytes told is part = tt
part-found (Err e) into bytes told is part = let P : Option (List ℕ) → Type 0 = λ o. StartsWith (unwrap_or o []) into in subst P (sym is) part
