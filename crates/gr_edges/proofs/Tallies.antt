-- How often each number is an edge's end.
use Rattle.std.proofs.Common.{◌≡◌, ℕ, suc, ◌+◌, ◌<◌, Bool, true, false, eqb, List, [], ◌∷◌, length, take, get_or, set, sym, ap, ◌∙◌, subst, arith, inl, inr}
use Rattle.std.specs.Prelude.{◌||◌}
use Rattle.std.specs.List.{All, count_by}
use Rattle.std.proofs.lemmas.Bool.{cases_Bool, cases_eq, eqb-true, eq-eqb, ne_eqb}
use Rattle.std.proofs.lemmas.List.{get_or-set_same, get_or-set_other}
use Rattle.std.proofs.lemmas.List.Sums.{count_by_more_yes, count_by_more_no}
use Rattle.gr_base.specs.declared.records.Edge.{Edge}
use Rattle.gr_base.specs.Rising.{has}

-- what holds of all numbers holds of one that is there
pub all-has : (P : ℕ → Type 0) (ns : List ℕ) (v : ℕ) → All P ns → has ns v ≡ true → P v
all-has P [] v all there = absurd (cc)
all-has P (n ∷ ns) v all there = elim (cases_Bool (eqb n v)) [
  | inl same ↦ subst P (eqb-true n v same) (all 0 n (omega arith))
  | inr other ↦ all-has P ns v (λ k d lt. all (suc k) d (omega arith)) (ap (λ (b : Bool). b || has ns v) (sym other) ∙ there)
]

-- one edge more
module _ (key : Edge → ℕ) (es : List Edge) (i : ℕ) (d : Edge) (lt : i < length es) (cs : List ℕ) where
  abbrev counted : ℕ → List Edge → ℕ
  counted v es = count_by (λ (e : Edge). eqb (key e) v) es

  pub tally-after : (at more : ℕ) → at ≡ key (get_or es i d) → at < length cs → more ≡ get_or cs at 0 + 1 → ((v : ℕ) → v < length cs → get_or cs v 0 ≡ counted v (take i es)) → (v : ℕ) → v < length cs → get_or (set cs at more) v 0 ≡ counted v (take (i + 1) es)
  tally-after at more at_is below more_is were v within = elim (cases_eq v at) [
    | inl same ↦
        let on : eqb (key (get_or es i d)) v ≡ true = eq-eqb (key (get_or es i d)) v (sym at_is ∙ sym same) in
        let one = count_by_more_yes (λ (e : Edge). eqb (key e) v) es i d lt on in
        ap (λ (n : ℕ). get_or (set cs at more) n 0) same ∙ get_or-set_same cs at more 0 below ∙ more_is ∙ ap (λ (n : ℕ). get_or cs n 0 + 1) (sym same) ∙ ap (λ (n : ℕ). n + 1) (were v within) ∙ sym one
    | inr apart ↦
        let off : eqb (key (get_or es i d)) v ≡ false = ne_eqb (key (get_or es i d)) v (λ e. apart (sym e ∙ sym at_is)) in
        get_or-set_other cs at v more 0 apart ∙ were v within ∙ sym (count_by_more_no (λ (e : Edge). eqb (key e) v) es i d lt off)
  ]
