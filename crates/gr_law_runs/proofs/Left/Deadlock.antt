-- No cluster stands still: where no batch is in flight and no place can work, every party has reported.
use Rattle.std.proofs.Common.{◌≡◌, ◌≢◌, ℕ, zero, suc, ◌<◌, ◌≤◌, List, [], Bool, true, false, cond, not, ◌==◌, ◌&&◌, ◌||◌, nat_lt, refl, sym, ap, ◌∙◌, subst, arith, Some, None, eq-eqb, ltb-false, ⊎_elim, inl, inr}
use Rattle.std.specs.Prelude.{count_by, is_some, ◌⊎◌}
use Rattle.std.specs.List.{list_any}
use Rattle.std.proofs.lemmas.Bool.{and_parts, and_from, both_ways, not-true, or_parts}
use Rattle.gr_base.specs.Rising.{has}
use Rattle.gr_program.specs.Program.{Program}
use Rattle.gr_batch.specs.declared.stage.Stage.{Stage}
use Rattle.gr_batch.specs.declared.stage.Stage.TheVariants as stage
use Rattle.gr_batch.specs.Stages.{is_stage, is_end}
use Rattle.gr_batch.specs.Order.{place_in}
use Rattle.gr_batch.specs.Bodies.{is_of}
use Rattle.gr_view.specs.declared.coordinator.Coordinator.{Coordinator}
use Rattle.gr_view.specs.declared.coordinator.Mode.{Mode}
use Rattle.gr_view.specs.declared.coordinator.Mode.TheVariants as mode
use Rattle.gr_view.specs.Decisions.{parties, unready}
use Rattle.gr_view.specs.Modes.{is_open, is_over, is_rebuild}
use Rattle.gr_rules.specs.Exchange.{needed}
use Rattle.gr_rules.specs.Inbox.{missing}
use Rattle.gr_rules.specs.Todo.{is_act}
use Rattle.gr_cluster.specs.Tables.{Host, Cluster, host, is_up}
use Rattle.gr_cluster.specs.Stages.{stages_of, has_stage}
use Rattle.gr_cluster.specs.Todo.{others, todo}
use Rattle.gr_agree.specs.Truth.{Truth}
use Rattle.gr_agree.specs.Network.{is_shown, shows_sent, standing}
use Rattle.gr_agree.specs.Agree.{Agree}
use Rattle.gr_lists.proofs.Tests.{by_test, by_option}
use Rattle.gr_lists.proofs.Any.{find-any, find-one_of, has-filter}
use Rattle.gr_lists.proofs.Counts.{count_by-none}
use Rattle.gr_lists.proofs.Each.{Each-always}
use Rattle.gr_law_rounds.proofs.Round.AtPlace.{place-le}
use Rattle.gr_law_rounds.proofs.Network.Kept.{up-party}
use Rattle.gr_law_runs.proofs.Left.Cases.{IsCurrent, by-todo}
use Rattle.gr_law_runs.proofs.Left.Work.{at-epoch, current-epoch}

-- the needed stage is one of the mode, sends batches, and is earlier
pub record IsNeeded (m : Mode) (k s : Stage) : Type 0 where
  pub there : has_stage (stages_of m) s ≡ true
  pub sends : is_end s ≡ false
  pub before : place_in s < place_in k

needed-earlier : (m : Mode) (k : Stage) → has_stage (stages_of m) k ≡ true → (s : Stage) → needed (is_rebuild m) k ≡ Some s → IsNeeded m k s
needed-earlier m k y s e = of m k y e
  where
    from_stage : (m : Mode) (k s' : Stage) → Some s' ≡ Some s → IsNeeded m k s' → IsNeeded m k s
    from_stage m k s' e N = let same : s' ≡ s = cc in subst (IsNeeded m k) same N

    none : {X : Type 0} → None ≡ Some s → X
    none e = absurd (cc)

    not_there : {X : Type 0} → false ≡ true → X
    not_there y = absurd (cc)

    of : (m : Mode) (k : Stage) → has_stage (stages_of m) k ≡ true → needed (is_rebuild m) k ≡ Some s → IsNeeded m k s
    of mode.Running stage.Gather y e = none e
    of mode.Running stage.Update y e = from_stage mode.Running stage.Update stage.Gather e (record { there = refl; sends = refl; before = omega arith })
    of mode.Running stage.Signal y e = from_stage mode.Running stage.Signal stage.Update e (record { there = refl; sends = refl; before = omega arith })
    of mode.Running stage.Call y e = from_stage mode.Running stage.Call stage.Signal e (record { there = refl; sends = refl; before = omega arith })
    of mode.Running stage.End y e = from_stage mode.Running stage.End stage.Call e (record { there = refl; sends = refl; before = omega arith })
    of mode.Recovering stage.Ask y e = none e
    of mode.Recovering stage.Grant y e = from_stage mode.Recovering stage.Grant stage.Ask e (record { there = refl; sends = refl; before = omega arith })
    of mode.Recovering stage.End y e = from_stage mode.Recovering stage.End stage.Grant e (record { there = refl; sends = refl; before = omega arith })
    of mode.Repairing stage.Ask y e = none e
    of mode.Repairing stage.Grant y e = from_stage mode.Repairing stage.Grant stage.Ask e (record { there = refl; sends = refl; before = omega arith })
    of mode.Repairing stage.End y e = from_stage mode.Repairing stage.End stage.Grant e (record { there = refl; sends = refl; before = omega arith })
    of _ _ y e = not_there y

-- a place that waits for the batch of a sender
pub record Waits {V A : Type 0} (m : Mode) (others : List ℕ) (h : Host V A) : Type 0 where
  pub stage : Stage
  pub sender : ℕ
  pub needs : needed (is_rebuild m) h.stage ≡ Some stage
  pub lacks : missing h.inbox h.epoch stage others ≡ Some sender

module _ {V A : Type 0} (P : Program V A) (t : Truth V) (c : Cluster V A) (AG : Agree P t c) (goes_on : is_over c.coordinator.mode ≡ false) (opened : is_open c.coordinator.mode ≡ true) where
  abbrev co : Coordinator
  co = c.coordinator

  -- a place that is up and cannot work has reported, or waits
  pub record Stands (p : ℕ) (h : Host V A) : Type 0 where
    pub current : IsCurrent co p h
    pub has : (h.reported ≡ true) ⊎ Waits co.mode (others co p) h

  stands : (p : ℕ) (h : Host V A) → host c p ≡ Some h → is_act (todo co p h) ≡ false → Stands p h
  stands p h at = by-todo co p h (λ x. is_act x ≡ false → Stands p h) (record {
    over = λ o y. absurd (both_ways _ goes_on o);
    install = λ lt y. acts y;
    adopt = λ lt y. acts y;
    start = λ K w n. record {
      compute = λ y. acts y;
      wait = λ s q is m y. record { current = K; has = inr (record { stage = s; sender = q; needs = is; lacks = m }) };
    };
    idle = λ K o w n y. absurd (both_ways _ w opened);
    send = λ K o z e q u y. acts y;
    all_sent = λ K z e u y. absurd (
        let some = find-any (λ q. not (has h.sent q)) (λ q. q ≡ q) (others co p) ((at-epoch P t c AG p h at K).unsent_left z e) (Each-always _ (λ q. refl) (others co p)) in
        let found = some.1 in let bad : None ≡ Some some.0 = sym u ∙ found in cc);
    append = λ K z r n y. acts y;
    report = λ K o z n y. acts y;
    rest = λ K z r y. record { current = K; has = inl r };
  })
    where
      acts : {X : Type 0} → true ≡ false → X
      acts y = absurd (cc)

  module _ (no_flight : c.flight ≡ []) (all_up : (p : ℕ) → has (parties co) p ≡ true → is_up c p ≡ true) (quiet : (p : ℕ) (h : Host V A) → host c p ≡ Some h → is_act (todo co p h) ≡ false) where
    standing-at : (p : ℕ) (h : Host V A) → host c p ≡ Some h → Stands p h
    standing-at p h at = stands p h at (quiet p h at)

    host-of : (p : ℕ) → has (parties co) p ≡ true → (h : Host V A) × (host c p ≡ Some h)
    host-of p party = by_option (host c p)
        (λ n. absurd (let bad : false ≡ true = sym (ap is_some n) ∙ all_up p party in cc))
        (λ h at. (h, at))

    -- the sender for which a place waits is at an earlier stage
    module _ (p : ℕ) (h : Host V A) (at : host c p ≡ Some h) (K : IsCurrent co p h) (W : Waits co.mode (others co p) h) where
      lacking : (list_any (is_of W.sender h.epoch W.stage) h.inbox ≡ false) × (has (parties co) W.sender ≡ true) × (W.sender ≢ p)
      lacking =
          let f = find-one_of (λ r. not (list_any (is_of r h.epoch W.stage) h.inbox)) (others co p) W.sender W.lacks in
          let k = and_parts (has (parties co) W.sender) (not (W.sender == p)) (sym (has-filter (λ q. not (q == p)) (parties co) W.sender) ∙ f.1) in
          (not-true _ f.0, k.0, (λ e. both_ways _ (not-true _ k.1) (eq-eqb W.sender p e)))

      none-standing : standing c.flight (host c p) W.sender p co.epoch W.stage ≡ 0
      none-standing =
          let same = current-epoch P t c AG p h at K in
          let inbox : count_by (is_of W.sender co.epoch W.stage) h.inbox ≡ 0 = count_by-none _ h.inbox (ap (λ e. list_any (is_of W.sender e W.stage) h.inbox) (sym same) ∙ lacking.0) in
          (λ i. standing (no_flight i) (at i) W.sender p co.epoch W.stage) ∙ omega (arith, inbox)

      not-shown : is_shown co p (host c W.sender) W.stage ≡ false
      not-shown =
          let l = lacking in
          let all = AG.open_work.network.all_sent W.sender p W.stage (all_up W.sender l.1) (ap is_some at) l.1 (up-party P t c AG p h at) l.2 in
          let gone = none-standing in
          by_test (is_shown co p (host c W.sender) W.stage)
          (λ y. absurd (let one : cond {A = ℕ} (is_shown co p (host c W.sender) W.stage) 1 0 ≡ 1 = ap (λ b. cond b 1 0) y in omega (arith, all, gone, one)))
          (λ n. n)

      is-needed : IsNeeded co.mode h.stage W.stage
      is-needed = needed-earlier co.mode h.stage ((at-epoch P t c AG p h at K).stage opened) W.stage W.needs

      sender-earlier : (k : Host V A) → host c W.sender ≡ Some k → place_in k.stage < place_in h.stage
      sender-earlier k is =
          let N = is-needed in
          let same : (k.epoch == co.epoch) ≡ true = eq-eqb _ _ (current-epoch P t c AG W.sender k is (standing-at W.sender k is).current) in
          let hidden : shows_sent co p k W.stage ≡ false = sym (ap (λ o. is_shown co p o W.stage) is) ∙ not-shown in
          let there : (has_stage (stages_of co.mode) W.stage && not (is_end W.stage)) ≡ true = and_from _ _ N.there (ap not N.sends) in
          let rest : (nat_lt (place_in W.stage) (place_in k.stage) || (is_stage W.stage k.stage && has k.sent p)) ≡ false = rw (same, there) at hidden in
          let late : nat_lt (place_in W.stage) (place_in k.stage) ≡ false = (or_parts _ (is_stage W.stage k.stage && has k.sent p) rest).0 in let ge = ltb-false (place_in W.stage) (place_in k.stage) late in let lt = N.before in omega (arith, ge, lt)

    -- so no place waits
    reports-by : (n p : ℕ) (h : Host V A) → host c p ≡ Some h → place_in h.stage < n → h.reported ≡ true
    reports-by zero p h at lt = absurd (omega (arith, lt))
    reports-by (suc n) p h at lt =
        let S = standing-at p h at in ⊎_elim (λ r. r)
        (λ W. absurd (
        let l = lacking p h at S.current W in let o = host-of W.sender l.1 in let k = o.0 in
        let earlier = sender-earlier p h at S.current W k o.1 in
        let ih = reports-by n W.sender k o.1 (omega (arith, lt, earlier)) in
        let five = ((at-epoch P t c AG W.sender k o.1 (standing-at W.sender k o.1).current).reported ih).0 in
        let few = place-le h.stage in let one = at-most-one k.computed in omega (arith, five, few, earlier, one)))
        S.has
      where
        at-most-one : (b : Bool) → cond {A = ℕ} b 1 0 ≤ 1
        at-most-one true = omega arith
        at-most-one false = omega arith

    pub all-ready : unready co ≡ None
    all-ready = by_option (unready co)
        (λ n. n)
        (λ p u. absurd (
        let f = find-one_of (λ q. not (has co.ready q)) (parties co) p u in let o = host-of p f.1 in let h = o.0 in
        let r = reports-by 5 p h o.1 (let few = place-le h.stage in omega (arith, few)) in
        let same = eq-eqb _ _ (current-epoch P t c AG p h o.1 (standing-at p h o.1).current) in
        let ready : has co.ready p ≡ true = AG.open_work.reports.ready p h o.1 f.1 ∙ and_from _ _ same r in
        both_ways _ (not-true _ f.0) ready))
