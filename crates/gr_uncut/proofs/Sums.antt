-- Sums and new values, one element more.
use Rattle.std.proofs.Common.{◌≡◌, ◌∙◌, ◌<◌, ◌+◌, ◌||◌, ℕ, Bool, true, eqb, List, [], ◌∷◌, ◌++◌, length, take, get_or, set, map, if◌then◌else◌, ap, sym, inl, inr}
use Rattle.std.proofs.Math.Bool.{or-false}
use Rattle.std.proofs.lemmas.Bool.{cases_eq, eq-eqb, ne_eqb, or_right}
use Rattle.std.proofs.lemmas.List.{take_more, map-append, get_or-set_same, get_or-set_other, length-set}
use Rattle.std.proofs.lemmas.List.Folds.{list_any_more}
use Rattle.std.proofs.lemmas.List.Sums.{fold-append}
use Rattle.gr_base.specs.Rising.{has}
use Rattle.gr_program.specs.Program.{Program, total}
use Rattle.gr_uncut.specs.declared.index.Arc.{Arc}
use Rattle.gr_uncut.specs.Round.{Reads, brought}

pub brought-more : {V A : Type 0} (p : Program V A) (x : ℕ → V) (arcs : List Arc) (i : ℕ) (d : Arc) → i < length arcs
    → total p (map (brought p x) (take (i + 1) arcs)) ≡ p.join (total p (map (brought p x) (take i arcs))) (brought p x (get_or arcs i d))
brought-more p x arcs i d lt =
    ap (λ l. total p (map (brought p x) l)) (take_more arcs i d lt)
    ∙ ap (total p) (map-append (brought p x) (take i arcs) (get_or arcs i d ∷ []))
    ∙ fold-append p.join p.unit (map (brought p x) (take i arcs)) (brought p x (get_or arcs i d) ∷ [])

pub map-push : {X Y : Type 0} (f : X → Y) (xs : List X) (ys : List Y) (i : ℕ) (y : Y) (d : X) → i < length xs → ys ≡ map f (take i xs) → y ≡ f (get_or xs i d) → ys ++ y ∷ [] ≡ map f (take (i + 1) xs)
map-push f xs ys i y d lt was here =
    ap (λ l. l ++ y ∷ []) was ∙ ap (λ z. map f (take i xs) ++ z ∷ []) here
    ∙ sym (map-append f (take i xs) (get_or xs i d ∷ []))
    ∙ sym (ap (map f) (take_more xs i d lt))

pub has-more : (ks : List ℕ) (i k : ℕ) → i < length ks → has (take (i + 1) ks) k ≡ (has (take i ks) k || eqb (get_or ks i 0) k)
has-more ks i k lt = list_any_more (λ j. eqb j k) ks i 0 lt

-- a new value put at its position
pub put-more : {V : Type 0} (x y : ℕ → V) (ks : List ℕ) (i k : ℕ) (v : V) (xs : List V) → i < length ks → get_or ks i 0 ≡ k → k < length xs → v ≡ y k
    → Reads (λ j. if has (take i ks) j then y j else x j) xs → Reads (λ j. if has (take (i + 1) ks) j then y j else x j) (set xs k v)
put-more x y ks i k v xs lt at low is was = λ j d within. elim (cases_eq j k) [
  | inl same ↦
      let on : has (take (i + 1) ks) j ≡ true = has-more ks i j lt ∙ or_right (has (take i ks) j) (eqb (get_or ks i 0) j) (eq-eqb (get_or ks i 0) j (at ∙ sym same)) in
      rw on (ap (λ n. get_or (set xs k v) n d) same ∙ get_or-set_same xs k v d low ∙ is ∙ ap y (sym same))
  | inr apart ↦
      let kept : has (take (i + 1) ks) j ≡ has (take i ks) j = has-more ks i j lt ∙ ap (λ b. has (take i ks) j || b) (ne_eqb (get_or ks i 0) j (λ e. apart (sym e ∙ at))) ∙ or-false (has (take i ks) j) in
      get_or-set_other xs k j v d apart
      ∙ was j d (rw (← length-set xs k v) within)
      ∙ ap (λ (b : Bool). if b then y j else x j) (sym kept)
]
