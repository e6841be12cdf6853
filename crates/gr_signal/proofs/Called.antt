-- Call bodies: by the vertices that they name, and of the targets.
use Rattle.std.proofs.Common.{◌≡◌, ◌∙◌, ℕ, Bool, true, false, List, [], ◌∷◌, get_or, refl, sym, ap, eqb-true}
use Rattle.std.specs.Prelude.{◌&&◌, ◌==◌}
use Rattle.std.specs.List.{All}
use Rattle.gr_base.specs.Rising.{RisesBy, has}
use Rattle.gr_base.specs.declared.records.NumberedEdge.{NumberedEdge}
use Rattle.gr_base.proofs.Rising.{rises-head, rises-tail}
use Rattle.gr_lists.proofs.Tests.{by_test}
use Rattle.gr_program.specs.declared.copy.VertexCopy.{VertexCopy}
use Rattle.gr_batch.specs.declared.body.NewValue.{NewValue}
use Rattle.gr_rules.specs.Rows.{row}
use Rattle.gr_rules.specs.Round.{is_signalled, vertices_where, signal_body, call_body}
use Rattle.gr_signal.specs.Signals.{signalled, calls_to}
use Rattle.gr_signal.proofs.Picked.{passes}
use Rattle.gr_signal.proofs.Selected.{vertex, vertices-same, selected-has, none-selected}

and-turned : (m h n : Bool) → ((m && h) && n) ≡ (m && (n && h))
and-turned true true true = refl
and-turned true true false = refl
and-turned true false true = refl
and-turned true false false = refl
and-turned false h n = refl

and-again : (s m h : Bool) → (s && (m && h)) ≡ ((m && h) && (m && s))
and-again true true true = refl
and-again true true false = refl
and-again true false h = refl
and-again false true true = refl
and-again false true false = refl
and-again false false h = refl

module _ {V : Type 0} where
  -- whether a copy names p as its master and q among its holders
  abbrev pub is_called : ℕ → ℕ → VertexCopy V → Bool
  is_called p q c = (c.master == p) && has c.holders q

  -- the copies of listed vertices that pass, as a Call body
  pub called-call : (next : List ℕ) (rows : List (VertexCopy V)) (p q : ℕ) → vertices_where (λ c. is_called p q c && has next c.vertex) rows ≡ call_body next rows p q
  unfolding call_body
  called-call next rows p q =
      vertices-same (λ c. is_called p q c && has next c.vertex) (λ c. (c.master == p) && (has next c.vertex && has c.holders q)) rows
      (λ k d l. let c = get_or rows k d in and-turned (c.master == p) (has c.holders q) (has next c.vertex))

  -- a vertex is among the selected ones if its copy passes
  selected-row : (t : VertexCopy V → Bool) (rows : List (VertexCopy V)) (v : ℕ) → RisesBy vertex rows → has (vertices_where t rows) v ≡ passes t (row rows v)
  selected-row t [] v r = refl
  selected-row t (x ∷ xs) v r = by_test (x.vertex == v)
      (λ e. let none : has (vertices_where t xs) v ≡ false = ap (has (vertices_where t xs)) (sym (eqb-true x.vertex v e)) ∙ none-selected t xs x.vertex (rises-head vertex x xs r) in by_test (t x)
      (λ k. rw (k, e, k) refl)
      (λ k. rw (k, e, k) none))
      (λ e. let rest = selected-row t xs v (rises-tail vertex x xs r) in by_test (t x)
      (λ k. rw (k, e) rest)
      (λ k. rw (k, e) rest))

  -- a Call body names the listed vertices whose copies pass
  pub call-has : (next : List ℕ) (rows : List (VertexCopy V)) (p q v : ℕ) → RisesBy vertex rows → has (call_body next rows p q) v ≡ (has next v && passes (is_called p q) (row rows v))
  call-has next rows p q v r = ap (λ l. has l v) (sym (called-call next rows p q)) ∙ selected-row (λ c. is_called p q c && has next c.vertex) rows v r ∙ listed rows
    where
      either : (a b : Bool) → (a && b) ≡ (b && a)
      either true true = refl
      either true false = refl
      either false true = refl
      either false false = refl

      listed : (cs : List (VertexCopy V)) → passes (λ c. is_called p q c && has next c.vertex) (row cs v) ≡ (has next v && passes (is_called p q) (row cs v))
      listed [] = either false (has next v)
      listed (x ∷ xs) = by_test (x.vertex == v)
          (λ e. rw e (ap (λ u. is_called p q x && has next u) (eqb-true x.vertex v e) ∙ either (is_called p q x) (has next v)))
          (λ e. rw e (listed xs))

  body-has : (news : List (NewValue V)) (rows : List (VertexCopy V)) (arcs : List NumberedEdge) (p : ℕ) → RisesBy vertex rows → All (λ c. has (signal_body news rows arcs p) c.vertex ≡ ((c.master == p) && is_signalled news arcs c.vertex)) rows
  unfolding signal_body
  body-has news rows arcs p r = selected-has (λ c. (c.master == p) && is_signalled news arcs c.vertex) rows r

  targets-called : (news : List (NewValue V)) (arcs : List NumberedEdge) (p q : ℕ) (rows : List (VertexCopy V)) → calls_to (signalled news rows arcs) p q ≡ vertices_where (λ c. is_signalled news arcs c.vertex && is_called p q c) rows
  unfolding signalled
  targets-called news arcs p q [] = refl
  targets-called news arcs p q (c ∷ cs) = by_test (is_signalled news arcs c.vertex)
      (λ s. by_test (is_called p q c)
      (λ m. rw (s, m) (ap (λ l. c.vertex ∷ l) (targets-called news arcs p q cs)))
      (λ m. rw (s, m) (targets-called news arcs p q cs)))
      (λ s. rw s (targets-called news arcs p q cs))

  -- of the targets p calls q for what its Signal body to itself would name
  pub calls-signalled : (news : List (NewValue V)) (rows : List (VertexCopy V)) (arcs : List NumberedEdge) (p q : ℕ) → RisesBy vertex rows
      → calls_to (signalled news rows arcs) p q ≡ call_body (signal_body news rows arcs p) rows p q
  calls-signalled news rows arcs p q r =
      targets-called news arcs p q rows
      ∙ vertices-same (λ c. is_signalled news arcs c.vertex && is_called p q c) (λ c. is_called p q c && has (signal_body news rows arcs p) c.vertex) rows
      (λ k d l. let c = get_or rows k d in and-again (is_signalled news arcs c.vertex) (c.master == p) (has c.holders q) ∙ sym (ap (λ b. is_called p q c && b) (body-has news rows arcs p r k d l)))
      ∙ called-call (signal_body news rows arcs p) rows p q
