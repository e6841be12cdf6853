-- Sending a batch that the committed state says keeps the invariant.
use Rattle.std.proofs.Common.{◌≡◌, ◌≢◌, ℕ, ◌+◌, ◌≤◌, List, [], ◌∷◌, ◌++◌, true, false, cond, not, ◌==◌, ◌&&◌, ◌||◌, refl, sym, ap, ◌∙◌, subst, arith, Option, Some, None, eq-eqb, le_refl}
use Rattle.std.specs.Prelude.{IsTrue}
use Rattle.std.proofs.lemmas.Bool.{and_parts, not-true, not-false, both_ways}
use Rattle.gr_base.specs.Rising.{has}
use Rattle.gr_base.specs.Places.{with_place}
use Rattle.gr_base.proofs.WithPlace.{has-with_place}
use Rattle.gr_program.specs.Program.{Program}
use Rattle.gr_batch.specs.declared.batch.Batch.{Batch}
use Rattle.gr_batch.specs.declared.stage.Stage.{Stage}
use Rattle.gr_batch.specs.Stages.{code_of, is_end, is_stage, stage_after}
use Rattle.gr_batch.specs.Order.{place_in}
use Rattle.gr_batch.specs.Bodies.{stage_of_body, is_from}
use Rattle.gr_view.specs.Modes.{is_rebuild}
use Rattle.gr_view.specs.Decisions.{parties}
use Rattle.gr_rules.specs.Exchange.{Exchange, begun, unsent, passed}
use Rattle.gr_rules.specs.Todo.{Todo}
use Rattle.gr_cluster.specs.Tables.{Host, Cluster, host, log, with_host, view_of, wanted_in}
use Rattle.gr_cluster.specs.Stages.{stages_of, has_stage}
use Rattle.gr_cluster.specs.Todo.{others}
use Rattle.gr_cluster.specs.Place.{body_to, batch_to}
use Rattle.gr_cluster.specs.Work.{in_exchange, worked}
use Rattle.gr_agree.specs.Truth.{Truth}
use Rattle.gr_agree.specs.TrueBody.{TrueBody}
use Rattle.gr_agree.specs.Hosts.{progress, AtEpoch, pending_rows, pending_arcs}
use Rattle.gr_agree.specs.Network.{BatchHolds, is_shown}
use Rattle.gr_agree.specs.Agree.{Agree}
use Rattle.gr_lists.proofs.Any.{find-none_of, find-one_of, has-filter}
use Rattle.gr_law_rounds.specs.Network.{IsKept}
use Rattle.gr_law_rounds.proofs.Network.Frame.{host-with_host, host-with_host-other}
use Rattle.gr_law_rounds.proofs.Network.Same.{line-same}
use Rattle.gr_law_rounds.proofs.Round.AtPlace.{place-le}
use Rattle.gr_law_rounds.proofs.Round.Network.{network-sent}
use Rattle.gr_law_rounds.proofs.Round.Codes.{same-code}
use Rattle.gr_law_rounds.proofs.Round.Line.{before-shows, still-later, still-more, still-now, gone-more, gone-later, gone-now}
use Rattle.gr_law_rounds.proofs.Round.InEpoch.{Passes, later-place, before-or_same, party, now, at-epoch, other-party, work-keeps}

module _ {V A : Type 0} (P : Program V A) (t : Truth V) (c : Cluster V A) (AG : Agree P t c) (p : ℕ) (h : Host V A) (at : host c p ≡ Some h)
    (le : c.coordinator.commits ≤ h.installed) (le' : c.coordinator.epoch ≤ h.epoch) (comp : h.computed ≡ true)
    (r : ℕ) (un : unsent (others c.coordinator p) h.sent ≡ Some r) (sends : is_end h.stage ≡ false) (N : Passes P t c p h.stage)
    (body_true : TrueBody P (view_of P c) (wanted_in P c) t p r (body_to P c p h r h.stage)) (body_code : code_of (stage_of_body (body_to P c p h r h.stage)) ≡ code_of h.stage) where
  done : progress h ≡ place_in h.stage + 1
  done = ap (λ b. place_in h.stage + cond b 1 0) comp

  -- the receiver is another party to which the batch was not sent
  found : (has h.sent r ≡ false) × (has (parties c.coordinator) r ≡ true) × (p ≢ r)
  found =
      let f = find-one_of (λ q. not (has h.sent q)) (others c.coordinator p) r un in
      let k = and_parts (has (parties c.coordinator) r) (not (r == p)) (sym (has-filter (λ q. not (q == p)) (parties c.coordinator) r) ∙ f.1) in
      (not-true _ f.0, k.0, (λ e. both_ways _ (not-true _ k.1) (eq-eqb r p (sym e))))

  abbrev b : Batch V A
  b = batch_to P c p h r

  batch-holds : BatchHolds P (view_of P c) (wanted_in P c) t c.coordinator b
  batch-holds = let f = found in record {
    apart = f.2;
    epoch = le_refl _;
    sender = λ e. party P t c AG p h at;
    receiver = λ e. f.1;
    stage = λ e. subst (λ s. IsTrue (has_stage (stages_of c.coordinator.mode) s)) (sym (same-code _ h.stage body_code)) N.here;
    body = λ e. body_true;
  }

  is-of-b : (q : ℕ) (s : Stage) → is_from p q c.coordinator.epoch s b ≡ ((r == q) && (code_of s == code_of (stage_of_body b.body)))
  is-of-b q s = rw (eq-eqb p p refl, eq-eqb c.coordinator.epoch c.coordinator.epoch refl) refl

  -- a batch that is not this one
  not-b : (q : ℕ) (s : Stage) → is_from p q c.coordinator.epoch s b ≡ false → ((r == q) && is_stage s h.stage) ≡ false
  not-b q s n = ap (λ k. (r == q) && (code_of s == k)) (sym body_code) ∙ (sym (is-of-b q s) ∙ n)

  abbrev more_sent : List ℕ
  more_sent = with_place h.sent r

  abbrev still : Exchange
  still = record { stage = h.stage; computed = h.computed; sent = more_sent }

  abbrev gone : Exchange
  gone = begun (stage_after h.stage)

  -- the last batch of the stage
  all-sent : (q : ℕ) → unsent (others c.coordinator p) more_sent ≡ None → has (parties c.coordinator) q ≡ true → p ≢ q → (has h.sent q || (r == q)) ≡ true
  all-sent q none m ne = sym (has-with_place h.sent r q) ∙ not-false _ (find-none_of (λ x. not (has more_sent x)) (others c.coordinator p) q none (other-party (parties c.coordinator) p q m ne))

  -- a place in a stage before the end has not reported
  not-reported : {X : Type 0} → IsTrue h.reported → X
  not-reported y = absurd (
      let all = ((at-epoch P t c AG p h at le le').reported y).0 in let d = done in
      let lt = later-place P t c p h.stage N in let few = place-le (stage_after h.stage) in omega (arith, all, d, lt, few))

  -- the host afterwards, which shows the batch as sent, and no other
  module _ (x : Exchange) (after : AtEpoch P (view_of P c) (wanted_in P c) t c.coordinator p (in_exchange x h) (log c p))
      (more : (q : ℕ) (s : Stage) → cond {A = ℕ} (is_shown c.coordinator q (Some h) s) 1 0 ≤ cond (is_shown c.coordinator q (Some (in_exchange x h)) s) 1 0)
      (shows : (s : Stage) → code_of s ≡ code_of h.stage → is_shown c.coordinator r (Some (in_exchange x h)) s ≡ true)
      (later : (q : ℕ) (s : Stage) → has (parties c.coordinator) q ≡ true → p ≢ q → is_from p q c.coordinator.epoch s b ≡ false → is_shown c.coordinator q (Some (in_exchange x h)) s ≡ is_shown c.coordinator q (Some h) s) where
    in-exchange-kept : IsKept P t c (record (with_host p (Some (in_exchange x h)) c) { flight = c.flight ++ b ∷ []; serial = c.serial + 1 })
    in-exchange-kept =
        let h' = in_exchange x h in
        work-keeps P t c AG p h at le le' h' refl refl refl refl c.logs refl (λ q. refl) (λ q ne. refl) (c.flight ++ b ∷ []) (c.serial + 1) after
        (network-sent P (view_of P c) (wanted_in P c) t c.coordinator (host c) (host (with_host p (Some h') c)) c.flight p h h' at (host-with_host c p h h' at) (host-with_host-other c p h h' at) AG.open_work.network
        b r h.stage batch-holds refl refl refl refl body_code (before-shows c.coordinator h (now P t c AG p h at le le') N.here sends N.before_next r found.0) more shows later)
        refl

  sent-kept : (o : Option ℕ) → unsent (others c.coordinator p) more_sent ≡ o
      → IsKept P t c (record (with_host p (Some (in_exchange (passed o still) h)) c) { flight = c.flight ++ b ∷ []; serial = c.serial + 1 })
  sent-kept None none =
      let E = at-epoch P t c AG p h at le le' in let d = done in let is = now P t c AG p h at le le' in
      in-exchange-kept gone
      (record {
        installed = E.installed;
        stage = λ o. N.next;
        idle = λ f. absurd (let none = E.idle f in omega (arith, none, d));
        not_sent = λ x. refl;
        unsent_left = λ x. absurd (let bad : false ≡ true = x in cc);
        needed = λ s y l. let lt = before-or_same P t c p h.stage N s y (omega (arith, l)) in E.needed s y (omega (arith, lt, d));
        rows = E.rows ∙ (ap (λ n. pending_rows P (view_of P c) (wanted_in P c) t p n (is_rebuild c.coordinator.mode)) d ∙ N.rows);
        arcs = E.arcs ∙ (ap (λ n. pending_arcs P (view_of P c) (wanted_in P c) t p n (is_rebuild c.coordinator.mode)) d ∙ N.arcs);
        tail = E.tail;
        not_torn = E.not_torn;
        reported = not-reported;
      })
      (gone-more c.coordinator h is N.here sends N.before_next)
      (gone-now c.coordinator h is N.here sends N.before_next r found.0)
      (λ q s m ne n. gone-later c.coordinator h is N.here sends N.before_next r found.0 q s (all-sent q none m ne) (not-b q s n))
  sent-kept (Some r') some =
      let E = at-epoch P t c AG p h at le le' in let co = c.coordinator in let l = log c p in let is = now P t c AG p h at le le' in
      in-exchange-kept still
      (line-same P (view_of P c) (wanted_in P c) t co co.ready co.due p h h.inbox more_sent h.appended h.reported l l (λ x. absurd (both_ways _ x comp))
      (λ x n. (find-one_of (λ q. not (has more_sent q)) (others c.coordinator p) r' some).2) E.needed E.tail E.not_torn E.reported E)
      (still-more c.coordinator h is N.here sends N.before_next r found.0)
      (still-now c.coordinator h is N.here sends N.before_next r found.0)
      (λ q s m ne n. still-later c.coordinator h is N.here sends N.before_next r found.0 q s (not-b q s n))

  pub send-keeps : IsKept P t c (worked P c p h (Todo.Send r)).0
  unfolding worked
  send-keeps = sent-kept (unsent (others c.coordinator p) more_sent) refl
