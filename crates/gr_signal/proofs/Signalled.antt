-- The tests of the copies by which bodies are made.
use Rattle.std.proofs.Common.{◌≡◌, ◌∙◌, ℕ, Bool, eqb, List, [], ◌∷◌, map, refl, ap}
use Rattle.std.specs.Prelude.{◌&&◌, ◌||◌, ◌==◌}
use Rattle.std.specs.List.{list_any, filter}
use Rattle.gr_base.specs.Rising.{has}
use Rattle.gr_base.specs.declared.records.NumberedEdge.{NumberedEdge}
use Rattle.gr_program.specs.declared.copy.VertexCopy.{VertexCopy}
use Rattle.gr_batch.specs.declared.body.NewValue.{NewValue}
use Rattle.gr_rules.specs.Round.{woke_by, is_signalled, signal_body}
use Rattle.gr_signal.specs.Signals.{is_target, target_of, signalled, signals_to}
use Rattle.gr_lists.proofs.Tests.{by_test}

module _ {V : Type 0} where
  -- the targets that pass one test of two that agree
  pub listed-same : (s u : ℕ → Bool) → ((v : ℕ) → s v ≡ u v) → (rows : List (VertexCopy V)) → map target_of (filter (λ c. s c.vertex) rows) ≡ map target_of (filter (λ c. u c.vertex) rows)
  listed-same s u same [] = refl
  listed-same s u same (c ∷ cs) = by_test (u c.vertex)
      (λ e. let e' = same c.vertex ∙ e in rw (e, e') (ap (λ l. target_of c ∷ l) (listed-same s u same cs)))
      (λ e. let e' = same c.vertex ∙ e in rw (e, e') (listed-same s u same cs))

  target-same : (woken : List ℕ) (news : List (NewValue V)) → ((v : ℕ) → has woken v ≡ woke_by news v) → (arcs : List NumberedEdge) (v : ℕ) → is_target woken arcs v ≡ list_any (λ a. eqb a.edge.dst v && woke_by news a.edge.src) arcs
  target-same woken news same [] v = refl
  target-same woken news same (a ∷ rest) v = ap (λ b. (eqb a.edge.dst v && b) || is_target woken rest v) (same a.edge.src) ∙ ap (λ b. (eqb a.edge.dst v && woke_by news a.edge.src) || b) (target-same woken news same rest v)

  -- the targets of what woke, by the new values
  pub targets-signalled : (woken : List ℕ) (rows : List (VertexCopy V)) (arcs : List NumberedEdge) (news : List (NewValue V)) → ((v : ℕ) → has woken v ≡ woke_by news v)
      → map target_of (filter (λ c. is_target woken arcs c.vertex) rows) ≡ signalled news rows arcs
  unfolding signalled
  targets-signalled woken rows arcs news same = listed-same (λ v. is_target woken arcs v) (is_signalled news arcs) (λ v. target-same woken news same arcs v) rows

  -- the Signal body to q
  pub signals-signalled : (news : List (NewValue V)) (rows : List (VertexCopy V)) (arcs : List NumberedEdge) (q : ℕ) → signals_to (signalled news rows arcs) q ≡ signal_body news rows arcs q
  unfolding signalled signal_body
  signals-signalled news [] arcs q = refl
  signals-signalled news (c ∷ cs) arcs q = by_test (is_signalled news arcs c.vertex)
      (λ s. by_test (c.master == q)
      (λ m. rw (s, m) (ap (λ l. c.vertex ∷ l) (signals-signalled news cs arcs q)))
      (λ m. rw (s, m) (signals-signalled news cs arcs q)))
      (λ s. by_test (c.master == q)
      (λ m. rw (s, m) (signals-signalled news cs arcs q))
      (λ m. rw (s, m) (signals-signalled news cs arcs q)))
