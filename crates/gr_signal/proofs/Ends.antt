-- The targets of edges out of listed vertices.
use Rattle.std.proofs.Common.{◌≡◌, ◌∙◌, ℕ, Bool, true, false, cond, List, [], ◌∷◌, ◌++◌, map, filter, refl, sym, ap}
use Rattle.std.specs.Prelude.{◌&&◌, ◌||◌, ◌==◌}
use Rattle.std.specs.List.{Contains}
use Rattle.std.proofs.lemmas.Bool.{false_from_ne_true, both_ways, eq-eqb}
use Rattle.std.proofs.lemmas.List.Folds.{list_any_at, list_any-append}
use Rattle.gr_base.specs.Rising.{has}
use Rattle.gr_base.specs.declared.records.NumberedEdge.{NumberedEdge}
use Rattle.gr_base.proofs.PlaceTests.{has-contains}
use Rattle.gr_lists.proofs.Any.{eqb-sym}
use Rattle.gr_lists.proofs.Tests.{by_test}
use Rattle.gr_signal.specs.Signals.{is_target}

-- the targets of the edges out of u
abbrev pub ends_from : ℕ → List NumberedEdge → List ℕ
ends_from u arcs = map (λ e. e.edge.dst) (filter (λ e. e.edge.src == u) arcs)

-- no listed vertex
pub target-none : (arcs : List NumberedEdge) (v : ℕ) → is_target [] arcs v ≡ false
target-none [] v = refl
target-none (a ∷ rest) v = no (a.edge.dst == v) (target-none rest v)
  where
    no : (d : Bool) → is_target [] rest v ≡ false → ((d && false) || is_target [] rest v) ≡ false
    no true e = e
    no false e = e

-- one listed vertex more
pub target-more : (us : List ℕ) (u : ℕ) (arcs : List NumberedEdge) (v : ℕ) → is_target (us ++ u ∷ []) arcs v ≡ (is_target us arcs v || has (ends_from u arcs) v)
target-more us u [] v = refl
target-more us u (a ∷ rest) v =
    let listed : has (us ++ u ∷ []) a.edge.src ≡ (has us a.edge.src || ((a.edge.src == u) || false)) = list_any-append (λ x. x == a.edge.src) us (u ∷ []) ∙ ap (λ b. has us a.edge.src || (b || false)) (eqb-sym u a.edge.src) in
    ap (λ h. ((a.edge.dst == v) && h) || is_target (us ++ u ∷ []) rest v) listed
    ∙ ap (λ r. ((a.edge.dst == v) && (has us a.edge.src || ((a.edge.src == u) || false))) || r) (target-more us u rest v)
    ∙ step (a.edge.dst == v) (has us a.edge.src) (a.edge.src == u) (is_target us rest v) (has (ends_from u rest) v)
    ∙ ap (λ b. is_target us (a ∷ rest) v || b) (sym (first (a.edge.src == u)))
  where
    first : (s : Bool) → has (map (λ e. e.edge.dst) (cond s (a ∷ filter (λ e. e.edge.src == u) rest) (filter (λ e. e.edge.src == u) rest))) v ≡ ((s && (a.edge.dst == v)) || has (ends_from u rest) v)
    first true = refl
    first false = refl

    step : (d h s r e : Bool) → ((d && (h || (s || false))) || (r || e)) ≡ (((d && h) || r) || ((s && d) || e))
    step true true s r e = refl
    step true false true true e = refl
    step true false true false e = refl
    step true false false r e = refl
    step false h true r e = refl
    step false h false r e = refl

-- two lists with the same members
pub same-members : (xs ys : List ℕ) → ((x : ℕ) → Contains xs x → Contains ys x) → ((x : ℕ) → Contains ys x → Contains xs x) → (v : ℕ) → has xs v ≡ has ys v
same-members xs ys to from v = by_test (has xs v)
    (λ k. k ∙ sym (there ys v (to v (has-contains xs v k))))
    (λ k. k ∙ sym (false_from_ne_true _ (λ m. both_ways _ k (there xs v (from v (has-contains ys v m))))))
  where
    there : (zs : List ℕ) (x : ℕ) → Contains zs x → has zs x ≡ true
    there zs x c = list_any_at (λ z. z == x) zs c.0 x c.1 (eq-eqb _ x c.2)
