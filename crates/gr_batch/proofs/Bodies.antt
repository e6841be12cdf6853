-- Bodies of bare vertices.
use Rattle.std.proofs.Common.{◌≡◌, ◌≢◌, ◌∙◌, ℕ, List, [], ◌∷◌, length, Option, Some, None, sym, ap, arith}
use Rattle.std.specs.Prelude.{IfSome, IfNone}
use Rattle.std.specs.List.{flat_map}
use Rattle.gr_batch.specs.declared.body.Body.{Body}
use Rattle.gr_batch.specs.declared.body.Body.TheVariants as body
use Rattle.gr_batch.specs.Telling.{Telling}
use Rattle.gr_batch.specs.Spelling.{IsShort, AreItems}
use Rattle.gr_batch.specs.Reading.{TellBody}
use Rattle.gr_batch.proofs.Lists.{flat_map-single}

-- vertices that the numbers tell, and that they tell none
abbrev pub Found : List ℕ → Option (List ℕ) → Type 0
Found numbers read = IfSome read (λ vs. AreItems (λ v. v) IsShort vs × (numbers ≡ length vs ∷ flat_map (λ v. v ∷ []) vs))

abbrev pub Absent : List ℕ → Option (List ℕ) → Type 0
Absent numbers read = IfNone read ((vs : List ℕ) → AreItems (λ v. v) IsShort vs → numbers ≢ length vs ∷ flat_map (λ v. v ∷ []) vs)

bare : (numbers vs : List ℕ) → numbers ≡ length vs ∷ flat_map (λ v. v ∷ []) vs → numbers ≡ length vs ∷ vs
bare numbers vs e = e ∙ ap (λ (l : List ℕ). length vs ∷ l) (flat_map-single vs)

told : (numbers vs : List ℕ) → numbers ≡ length vs ∷ vs → numbers ≡ length vs ∷ flat_map (λ v. v ∷ []) vs
told numbers vs e = e ∙ ap (λ (l : List ℕ). length vs ∷ l) (sym (flat_map-single vs))

module _ {V A : Type 0} (T : Telling V A) (code : ℕ) (numbers : List ℕ) (read : Option (List ℕ)) where
  pub signals : (vs : List ℕ) → read ≡ Some vs → code ≡ 2 → Found numbers read → TellBody T code numbers (body.Signal vs)
  signals vs is stage found = let f = rw is at found in record { spelled = f.0; stage = sym stage; parts = bare numbers vs f.1 }

  pub calls : (vs : List ℕ) → read ≡ Some vs → code ≡ 3 → Found numbers read → TellBody T code numbers (body.Call vs)
  calls vs is stage found = let f = rw is at found in record { spelled = f.0; stage = sym stage; parts = bare numbers vs f.1 }

  pub asks : (vs : List ℕ) → read ≡ Some vs → code ≡ 4 → Found numbers read → TellBody T code numbers (body.Ask vs)
  asks vs is stage found = let f = rw is at found in record { spelled = f.0; stage = sym stage; parts = bare numbers vs f.1 }

  pub no-signals : read ≡ None → code ≡ 2 → Absent numbers read → (b : Body V A) → TellBody T code numbers b → ⊥
  no-signals is stage absent (body.Gather xs) h = absurd (omega (arith, h.stage))
  no-signals is stage absent (body.Update xs) h = absurd (omega (arith, h.stage))
  no-signals is stage absent (body.Signal xs) h = (rw is at absent) xs h.spelled (told numbers xs h.parts)
  no-signals is stage absent (body.Call xs) h = absurd (omega (arith, h.stage))
  no-signals is stage absent (body.Ask xs) h = absurd (omega (arith, h.stage))
  no-signals is stage absent (body.Grant xs) h = absurd (omega (arith, h.stage))

  pub no-calls : read ≡ None → code ≡ 3 → Absent numbers read → (b : Body V A) → TellBody T code numbers b → ⊥
  no-calls is stage absent (body.Gather xs) h = absurd (omega (arith, h.stage))
  no-calls is stage absent (body.Update xs) h = absurd (omega (arith, h.stage))
  no-calls is stage absent (body.Signal xs) h = absurd (omega (arith, h.stage))
  no-calls is stage absent (body.Call xs) h = (rw is at absent) xs h.spelled (told numbers xs h.parts)
  no-calls is stage absent (body.Ask xs) h = absurd (omega (arith, h.stage))
  no-calls is stage absent (body.Grant xs) h = absurd (omega (arith, h.stage))

  pub no-asks : read ≡ None → code ≡ 4 → Absent numbers read → (b : Body V A) → TellBody T code numbers b → ⊥
  no-asks is stage absent (body.Gather xs) h = absurd (omega (arith, h.stage))
  no-asks is stage absent (body.Update xs) h = absurd (omega (arith, h.stage))
  no-asks is stage absent (body.Signal xs) h = absurd (omega (arith, h.stage))
  no-asks is stage absent (body.Call xs) h = absurd (omega (arith, h.stage))
  no-asks is stage absent (body.Ask xs) h = (rw is at absent) xs h.spelled (told numbers xs h.parts)
  no-asks is stage absent (body.Grant xs) h = absurd (omega (arith, h.stage))
