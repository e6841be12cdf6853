-- Positions of a run from which the same comes, and steps that lead from one to another.
use Rattle.std.proofs.Common.{◌≡◌, ℕ, zero, suc, ◌+◌, [], ◌∷◌, ◌++◌, length, refl, sym, ap, ◌∙◌, subst, arith, zero-add, length-append, Some, None}
use Rattle.std.proofs.lemmas.List.{append-nil}
use Rattle.std.proofs.lemmas.Grind.{flat_map-append}
use Rattle.gr_program.specs.Program.{Program}
use Rattle.gr_batch.specs.Telling.{Telling}
use Rattle.gr_sched.specs.declared.event.Event.{Event}
use Rattle.gr_cluster.specs.Tables.{Cluster}
use Rattle.gr_cluster.specs.Step.{step}
use Rattle.gr_cluster.specs.Canonical.{next_canonical}
use Rattle.gr_cluster.specs.Runs.{Position, Played, is_commit, lines_after, next_event, next_position, position_by, position_after, played_by, steps_of}
use Rattle.gr_cluster.specs.TraceText.{trace_line, trace_text}
use Rattle.gr_lists.proofs.Tests.{by_option}
use Rattle.gr_play.specs.Playing.{Plays}
use Rattle.gr_play.specs.Inside.Progress.{SameFrom, Leads}
use Rattle.gr_play.specs.TracedSteps.{text_of_steps}

module _ {V A : Type 0} (P : Program V A) where
  -- where no step comes the position stays
  next-none : (s : Position V A) → next_event s ≡ None → next_position P s ≡ s
  unfolding next_position
  next-none s n = ap (position_by P s) n

  pub next-some : (s : Position V A) (e : Event) → next_event s ≡ Some e
      → next_position P s ≡ record { cluster = (step P s.cluster e).0; lines = lines_after (next_canonical s.cluster) (is_commit (step P s.cluster e).1) s.lines }
  unfolding next_position
  next-some s e is = ap (position_by P s) is

  after-none : (m : ℕ) (s : Position V A) → next_event s ≡ None → position_after P m s ≡ s
  unfolding position_after
  after-none zero s n = refl
  after-none (suc m) s n = ap (position_after P m) (next-none s n) ∙ after-none m s n

  steps-none : (m : ℕ) (s : Position V A) → next_event s ≡ None → steps_of P m s ≡ []
  unfolding steps_of
  steps-none zero s n = refl
  steps-none (suc m) s n = ap (λ o. played_by P s o (steps_of P m (next_position P s))) n

  abbrev played : Position V A → Event → Played V A
  played s e = record { event = e; outcome = (step P s.cluster e).1 }

  steps-some : (m : ℕ) (s : Position V A) (e : Event) → next_event s ≡ Some e → steps_of P (suc m) s ≡ played s e ∷ steps_of P m (next_position P s)
  unfolding steps_of
  steps-some m s e is = ap (λ o. played_by P s o (steps_of P m (next_position P s))) is

  after-suc : (m : ℕ) (s : Position V A) → position_after P (suc m) s ≡ position_after P m (next_position P s)
  unfolding position_after
  after-suc m s = refl

  after-zero : (s : Position V A) → position_after P 0 s ≡ s
  unfolding position_after
  after-zero s = refl

  steps-zero : (s : Position V A) → steps_of P 0 s ≡ []
  unfolding steps_of
  steps-zero s = refl

  pub after-add : (n m : ℕ) (s : Position V A) → position_after P (n + m) s ≡ position_after P m (position_after P n s)
  after-add zero m s = (λ i. position_after P (zero-add m i) s) ∙ sym (ap (position_after P m) (after-zero s))
  after-add (suc n) m s =
      let e : suc n + m ≡ suc (n + m) = omega arith in
      (λ i. position_after P (e i) s) ∙ after-suc (n + m) s ∙ after-add n m (next_position P s) ∙ sym (ap (position_after P m) (after-suc n s))

  pub steps-add : (n m : ℕ) (s : Position V A) → steps_of P (n + m) s ≡ steps_of P n s ++ steps_of P m (position_after P n s)
  steps-add zero m s = (λ i. steps_of P (zero-add m i) s) ∙ sym (ap (λ l. l ++ steps_of P m (position_after P 0 s)) (steps-zero s) ∙ ap (steps_of P m) (after-zero s))
  steps-add (suc n) m s =
      let e : suc n + m ≡ suc (n + m) = omega arith in
      (λ i. steps_of P (e i) s) ∙ by_option (next_event s)
      (λ none. steps-none (suc (n + m)) s none
      ∙ sym (ap (λ l. l ++ steps_of P m (position_after P (suc n) s)) (steps-none (suc n) s none) ∙ ap (steps_of P m) (after-none (suc n) s none) ∙ steps-none m s none))
      (λ d is. steps-some (n + m) s d is
      ∙ ap (λ l. played s d ∷ l) (steps-add n m (next_position P s))
      ∙ sym (ap (λ l. l ++ steps_of P m (position_after P (suc n) s)) (steps-some n s d is) ∙ ap (λ t. (played s d ∷ steps_of P n (next_position P s)) ++ steps_of P m t) (after-suc n s)))

  pub SameFrom-refl : (s : Position V A) → SameFrom P s s
  SameFrom-refl s = record { cluster = refl; event = refl; next = λ e is. refl }

  pub SameFrom-trans : (s t u : Position V A) → SameFrom P s t → SameFrom P t u → SameFrom P s u
  SameFrom-trans s t u a b = record {
    cluster = a.cluster ∙ b.cluster;
    event = a.event ∙ b.event;
    next = λ e is. a.next e is ∙ b.next e (sym a.event ∙ is);
  }

  next-same : (s t : Position V A) → SameFrom P s t → SameFrom P (next_position P s) (next_position P t)
  next-same s t S = by_option (next_event s)
      (λ n. subst (λ x. SameFrom P x (next_position P t)) (sym (next-none s n)) (subst (SameFrom P s) (sym (next-none t (sym S.event ∙ n))) S))
      (λ e is. subst (SameFrom P (next_position P s)) (S.next e is) (SameFrom-refl (next_position P s)))

  pub after-same : (m : ℕ) (s t : Position V A) → SameFrom P s t → SameFrom P (position_after P m s) (position_after P m t)
  after-same zero s t S = subst (λ x. SameFrom P x (position_after P 0 t)) (sym (after-zero s)) (subst (SameFrom P s) (sym (after-zero t)) S)
  after-same (suc m) s t S =
      subst (λ x. SameFrom P x (position_after P (suc m) t)) (sym (after-suc m s))
      (subst (SameFrom P (position_after P m (next_position P s))) (sym (after-suc m t)) (after-same m (next_position P s) (next_position P t) (next-same s t S)))

  pub steps-same : (m : ℕ) (s t : Position V A) → SameFrom P s t → steps_of P m s ≡ steps_of P m t
  steps-same zero s t S = steps-zero s ∙ sym (steps-zero t)
  steps-same (suc m) s t S = by_option (next_event s)
      (λ n. steps-none (suc m) s n ∙ sym (steps-none (suc m) t (sym S.event ∙ n)))
      (λ e is. steps-some m s e is
      ∙ (λ i. record { event = e; outcome = (step P (S.cluster i) e).1 } ∷ steps_of P m (S.next e is i))
      ∙ sym (steps-some m t e (sym S.event ∙ is)))

  -- no step leads to a position from which the same comes
  pub Leads-nothing : (s t : Position V A) → SameFrom P s t → Leads P s 0 t
  Leads-nothing s t S = record { count = ap length (steps-zero s); same = subst (λ x. SameFrom P x t) (sym (after-zero s)) S }

  -- one step leads to the next position
  pub Leads-one : (s t : Position V A) (e : Event) → next_event s ≡ Some e → next_position P s ≡ t → Leads P s 1 t
  Leads-one s t e is to = record {
    count = ap length (steps-some 0 s e is ∙ ap (λ l. played s e ∷ l) (steps-zero (next_position P s)));
    same = subst (SameFrom P (position_after P 1 s)) (after-suc 0 s ∙ after-zero (next_position P s) ∙ to) (SameFrom-refl (position_after P 1 s));
  }

  pub Leads-trans : (s t u : Position V A) (n m : ℕ) → Leads P s n t → Leads P t m u → Leads P s (n + m) u
  Leads-trans s t u n m a b = record {
    count = ap length (steps-add n m s) ∙ length-append (steps_of P n s) (steps_of P m (position_after P n s))
        ∙ (λ i. a.count i + (ap length (steps-same m (position_after P n s) t a.same) ∙ b.count) i);
    same = subst (λ x. SameFrom P x u) (sym (after-add n m s)) (SameFrom-trans (position_after P m (position_after P n s)) (position_after P m t) u (after-same m (position_after P n s) t a.same) b.same);
  }

  pub Leads-plays : (s t : Position V A) (n m : ℕ) (end : Cluster V A) → Leads P s n t → Plays P t m end → Plays P s (n + m) end
  Leads-plays s t n m end a b = record {
    count = ap length (steps-add n m s) ∙ length-append (steps_of P n s) (steps_of P m (position_after P n s))
        ∙ (λ i. a.count i + (ap length (steps-same m (position_after P n s) t a.same) ∙ b.count) i);
    cluster = ap (λ x. x.cluster) (after-add n m s) ∙ (after-same m (position_after P n s) t a.same).cluster ∙ b.cluster;
  }

  pub Plays-nothing : (s : Position V A) → Plays P s 0 s.cluster
  Plays-nothing s = record { count = ap length (steps-zero s); cluster = ap (λ x. x.cluster) (after-zero s) }

  pub Leads-Plays : (s t : Position V A) (n : ℕ) → Leads P s n t → Plays P s n t.cluster
  Leads-Plays s t n a = record { count = a.count; cluster = (a.same).cluster }

  module _ (T : Telling V A) where
    pub text-nothing : (s : Position V A) → text_of_steps P T s 0 ≡ []
    unfolding trace_text
    text-nothing s = ap (trace_text T) (steps-zero s)

    pub text-one : (s : Position V A) (e : Event) → next_event s ≡ Some e → text_of_steps P T s 1 ≡ trace_line T (played s e)
    unfolding trace_text
    text-one s e is = ap (trace_text T) (steps-some 0 s e is ∙ ap (λ l. played s e ∷ l) (steps-zero (next_position P s))) ∙ append-nil (trace_line T (played s e))

    pub text-add : (s t : Position V A) (n m : ℕ) → Leads P s n t → text_of_steps P T s (n + m) ≡ text_of_steps P T s n ++ text_of_steps P T t m
    unfolding trace_text
    text-add s t n m a =
        ap (trace_text T) (steps-add n m s)
        ∙ flat_map-append (trace_line T) (steps_of P n s) (steps_of P m (position_after P n s))
        ∙ ap (λ l. text_of_steps P T s n ++ trace_text T l) (steps-same m (position_after P n s) t a.same)
