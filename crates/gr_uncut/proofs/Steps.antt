-- A round over positions is a round of the definition.
use Rattle.std.proofs.Common.{◌≡◌, ◌∙◌, ◌<◌, ◌&&◌, ℕ, Bool, true, eqb, List, [], ◌∷◌, length, get_or, map, if◌then◌else◌, refl, ap, sym, arith}
use Rattle.std.specs.Prelude.{slice_index}
use Rattle.std.specs.List.{All, filter, list_any}
use Rattle.std.proofs.lemmas.Bool.{cond-true, eq-eqb, eqb-true, and_parts, and_from}
use Rattle.std.proofs.lemmas.List.{length-map, get_or-map, get_or_default, same_lists}
use Rattle.std.proofs.lemmas.List.Elements.{All-filter, All-nil, All-cons, All-head, All-tail}
use Rattle.std.proofs.lemmas.List.Folds.{Any-from_list_any, list_any_at}
use Rattle.gr_base.specs.declared.records.Edge.{Edge}
use Rattle.gr_base.specs.Degrees.{outdegree}
use Rattle.gr_base.specs.Rising.{RisesBy, has}
use Rattle.gr_edges.specs.Vertices.{HasEnds}
use Rattle.gr_program.specs.Program.{Program, total}
use Rattle.gr_program.specs.Rounds.{State, contribution, gathered, next_value, woke}
use Rattle.gr_program.proofs.Recompute.{source-degree}
use Rattle.gr_uncut.specs.declared.index.Arc.{Arc}
use Rattle.gr_uncut.specs.declared.index.Index.{Index}
use Rattle.gr_uncut.specs.Index.{arc_of, with_id, arcs_at, targets_at, IsIndex}
use Rattle.gr_uncut.specs.Round.{Reads, brought, applied, is_woken, Holds}
use Rattle.gr_uncut.proofs.Positions.{list_any-map, same-position, place-of, head, tail}
use Rattle.gr_uncut.proofs.Passing.{list_any-same, list_any-filter, same_tests}

-- arcs bring what their edges contribute
brought-edges : {V A : Type 0} (p : Program V A) (vs : List ℕ) (es : List Edge) (x : ℕ → V) (arcs : List Arc) (edges : List Edge) → map (with_id vs) arcs ≡ map (arc_of es) edges → map (brought p (λ k. x (slice_index vs k))) arcs ≡ map (contribution p es x) edges
brought-edges p vs es x [] [] is = refl
brought-edges p vs es x [] (e ∷ edges) is = cc
brought-edges p vs es x (a ∷ arcs) [] is = cc
brought-edges p vs es x (a ∷ arcs) (e ∷ edges) is =
    ap (λ b. p.along (x b.source) b.weight b.outdegree ∷ map (brought p (λ k. x (slice_index vs k))) arcs) (head is)
    ∙ ap (λ l. contribution p es x e ∷ l) (brought-edges p vs es x arcs edges (tail is))

degrees-of : (vs : List ℕ) (es : List Edge) (arcs : List Arc) (edges : List Edge) → map (with_id vs) arcs ≡ map (arc_of es) edges → All (λ e. 0 < outdegree es e.src) edges → All (λ a. 0 < a.outdegree) arcs
degrees-of vs es [] edges is pos = All-nil (λ a. 0 < a.outdegree)
degrees-of vs es (a ∷ arcs) [] is pos = cc
degrees-of vs es (a ∷ arcs) (e ∷ edges) is pos =
    let here = ap (λ b. b.outdegree) (head is) in
    let first = All-head (λ e. 0 < outdegree es e.src) e edges pos in
    All-cons (λ a. 0 < a.outdegree) a arcs (rw here first) (degrees-of vs es arcs edges (tail is) (All-tail (λ e. 0 < outdegree es e.src) e edges pos))

-- each arc leaves a vertex with edges
pub arcs-degrees : (es : List Edge) (vs : List ℕ) (index : Index) → IsIndex es vs index → (k : ℕ) → k < length vs → All (λ a. 0 < a.outdegree) (arcs_at index k)
arcs-degrees es vs index is k lt = degrees-of vs es (arcs_at index k) (filter (λ e. eqb e.dst (slice_index vs k)) es) (is.arcs k lt).at (All-filter (λ e. eqb e.dst (slice_index vs k)) (λ e. 0 < outdegree es e.src) es (source-degree es))

module _ {V A : Type 0} (p : Program V A) (es : List Edge) (vs : List ℕ) (index : Index) (is : IsIndex es vs index) (s : State V) (xs : List V) (ks : List ℕ) (before : Holds p vs s xs ks) where
  -- the value at a position, and what it becomes where the position is active
  abbrev pub old : ℕ → V
  old k = s.value (slice_index vs k)

  abbrev pub new : ℕ → V
  new k = applied p vs index old k

  pub reads-old : Reads old xs
  reads-old = λ k d lt. ap (λ l. get_or l k d) before.values ∙ get_or-map s.value vs k 0 d (rw (before.values, length-map vs s.value) at lt)

  new-is : (k : ℕ) → k < length vs → new k ≡ p.apply (slice_index vs k) (old k) (gathered p es s.value (slice_index vs k))
  new-is k lt = ap (λ l. p.apply (slice_index vs k) (old k) (total p l)) (brought-edges p vs es s.value (arcs_at index k) (filter (λ e. eqb e.dst (slice_index vs k)) es) (is.arcs k lt).at)

  -- values put at the active positions are the next values
  pub next-values : (ys : List V) → length ys ≡ length xs → Reads (λ k. if has ks k then new k else old k) ys → ys ≡ map (next_value p es s) vs
  next-values ys long reads = same_lists ys (map (next_value p es s) vs) (long ∙ same) (λ k d lt.
      let low : k < length vs = omega (arith, lt, long, ap length before.values, length-map vs s.value) in
      reads k d lt
      ∙ ap (λ (b : Bool). if b then new k else old k) (before.active k low)
      ∙ ap (λ y. if s.active (slice_index vs k) then y else old k) (new-is k low)
      ∙ sym (get_or-map (next_value p es s) vs k 0 d low))
    where
      same : length xs ≡ length (map (next_value p es s) vs)
      same = ap length before.values ∙ length-map vs s.value ∙ sym (length-map vs (next_value p es s))

  module _ (rise : RisesBy (λ (n : ℕ). n) vs) (ends : All (HasEnds vs) es) where
    -- the targets of a position are those of its edges
    has-targets : (j k : ℕ) → j < length vs → k < length vs → has (targets_at index j) k ≡ list_any (λ e. (eqb e.src (slice_index vs j)) && (eqb e.dst (slice_index vs k))) es
    has-targets j k lj lk =
        let t = is.targets j lj in
        let ps = targets_at index j in
        list_any-same (λ i. eqb i k) (λ i. eqb (slice_index vs i) (slice_index vs k)) ps (λ i d lt. sym (same-position vs (get_or ps i d) k rise (t.within i d lt) lk))
        ∙ sym (list_any-map (slice_index vs) (λ v. eqb v (slice_index vs k)) ps)
        ∙ ap (λ l. has l (slice_index vs k)) t.at
        ∙ list_any-map (λ e. e.dst) (λ v. eqb v (slice_index vs k)) (filter (λ e. eqb e.src (slice_index vs j)) es)
        ∙ list_any-filter (λ e. eqb e.dst (slice_index vs k)) (λ e. eqb e.src (slice_index vs j)) es

    -- an active position wakes where its vertex does
    wakes-at : (j : ℕ) → j < length vs → s.active (slice_index vs j) ≡ true → p.wakes (old j) (new j) ≡ woke p es s (slice_index vs j)
    wakes-at j lt on =
        let next = new-is j lt ∙ sym (cond-true (s.active (slice_index vs j)) _ (old j) on) in
        ap (p.wakes (old j)) next ∙ ap (λ b. b && p.wakes (old j) (next_value p es s (slice_index vs j))) (sym on)

    abbrev called : ℕ → Edge → Bool
    called k e = (eqb e.dst (slice_index vs k)) && woke p es s e.src

    woken-called : (k : ℕ) → k < length vs → is_woken p index old new ks k ≡ true → list_any (called k) es ≡ true
    woken-called k lk on =
        let some = Any-from_list_any (λ j. p.wakes (old j) (new j) && has (targets_at index j) k) ks on in
        let j = some.1 in
        let at : get_or ks some.0 0 ≡ j = get_or_default ks some.0 0 j some.2 ∙ some.3 in
        let lj : j < length vs = omega (arith, at, before.within some.0 0 some.2) in
        let active : s.active (slice_index vs j) ≡ true = sym (before.active j lj) ∙ list_any_at (λ i. eqb i j) ks some.0 0 some.2 (eq-eqb (get_or ks some.0 0) j at) in
        let both = and_parts (p.wakes (old j) (new j)) (has (targets_at index j) k) some.4 in
        let edge = Any-from_list_any (λ e. (eqb e.src (slice_index vs j)) && (eqb e.dst (slice_index vs k))) es (sym (has-targets j k lj lk) ∙ both.1) in
        let e = edge.1 in
        let ends_are = and_parts (eqb e.src (slice_index vs j)) (eqb e.dst (slice_index vs k)) edge.4 in
        let wakes : woke p es s e.src ≡ true = ap (woke p es s) (eqb-true e.src (slice_index vs j) ends_are.0) ∙ sym (wakes-at j lj active) ∙ both.0 in
        list_any_at (called k) es edge.0 e edge.2 (ap (called k) edge.3 ∙ and_from (eqb e.dst (slice_index vs k)) (woke p es s e.src) ends_are.1 wakes)

    called-woken : (k : ℕ) → k < length vs → list_any (called k) es ≡ true → is_woken p index old new ks k ≡ true
    called-woken k lk on =
        let edge = Any-from_list_any (called k) es on in
        let e = edge.1 in
        let both = and_parts (eqb e.dst (slice_index vs k)) (woke p es s e.src) edge.4 in
        let stands : has vs e.src ≡ true = ap (λ f. has vs f.src) (sym edge.3) ∙ (ends edge.0 e edge.2).src in
        let place = place-of vs e.src stands in
        let j = place.0 in
        let woken : woke p es s (slice_index vs j) ≡ true = ap (woke p es s) place.2 ∙ both.1 in
        let active : s.active (slice_index vs j) ≡ true = (and_parts (s.active (slice_index vs j)) (p.wakes (old j) (next_value p es s (slice_index vs j))) woken).0 in
        let at = place-of ks j (before.active j place.1 ∙ active) in
        let hit : has (targets_at index j) k ≡ true =
        has-targets j k place.1 lk ∙ list_any_at (λ e. (eqb e.src (slice_index vs j)) && (eqb e.dst (slice_index vs k))) es edge.0 e edge.2
        (ap (λ f. (eqb f.src (slice_index vs j)) && (eqb f.dst (slice_index vs k))) edge.3 ∙ and_from (eqb e.src (slice_index vs j)) (eqb e.dst (slice_index vs k)) (eq-eqb e.src (slice_index vs j) (sym place.2)) both.0) in
        list_any_at (λ j. p.wakes (old j) (new j) && has (targets_at index j) k) ks at.0 0 at.1
        (ap (λ j. p.wakes (old j) (new j) && has (targets_at index j) k) at.2 ∙ and_from (p.wakes (old j) (new j)) (has (targets_at index j) k) (wakes-at j place.1 active ∙ woken) hit)

    -- the positions that are woken are those that edges from woken sources reach
    pub woken-is : (k : ℕ) → k < length vs → is_woken p index old new ks k ≡ list_any (λ e. (eqb e.dst (slice_index vs k)) && woke p es s e.src) es
    woken-is k lt = same_tests (is_woken p index old new ks k) (list_any (called k) es) (woken-called k lt) (called-woken k lt)
