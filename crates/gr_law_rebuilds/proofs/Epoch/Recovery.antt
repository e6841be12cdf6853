-- A recovery opens, with a spare for each named place.
use Rattle.std.proofs.Common.{◌≡◌, ◌≤◌, ◌<◌, ℕ, ◌+◌, ◌-◌, List, [], true, false, ◌&&◌, nat_lt, refl, sym, ap, ◌∙◌, arith, Some, None, length, leb-true, inl, inr}
use Rattle.std.specs.Prelude.{is_some, nat_le, if◌then◌else◌}
use Rattle.std.proofs.lemmas.List.Elements.{All-nil}
use Rattle.std.proofs.lemmas.Bool.{and_parts, both_ways}
use Rattle.gr_base.specs.Rising.{has, includes}
use Rattle.gr_base.specs.Places.{IsPlaces}
use Rattle.gr_base.proofs.Rising.{rises-nil}
use Rattle.gr_program.specs.Program.{Program}
use Rattle.gr_log.specs.Log.{Log, empty_log, cut_log}
use Rattle.gr_sched.specs.declared.event.Event.TheVariants as event
use Rattle.gr_view.specs.declared.coordinator.Mode.TheVariants as mode
use Rattle.gr_view.specs.Modes.{is_over, is_failed}
use Rattle.gr_view.specs.Decisions.{may_recover, at_recovery}
use Rattle.gr_cluster.specs.Tables.{Host, Cluster, changed_at, host, log}
use Rattle.gr_cluster.specs.Step.{lost_list, reborn_host, recovered, step}
use Rattle.gr_agree.specs.Truth.{Truth}
use Rattle.gr_agree.specs.Agree.{Agree}
use Rattle.gr_lists.proofs.Tests.{by_test}
use Rattle.gr_law_rebuilds.specs.Epoch.{IsLater, IsNewEpoch}
use Rattle.gr_law_rebuilds.proofs.Epoch.Opened.{Change, opened, IsReborn, Opens}
use Rattle.gr_law_rebuilds.proofs.Epoch.Agrees.{opened-later}
use Rattle.gr_law_rebuilds.proofs.Epoch.Tables.{cut-committed, length-changed_at, within-changed_at, get_or-unchanged, get_or-changed_at}
use Rattle.gr_law_rebuilds.proofs.Epoch.Places.{has-included, live-not_dead, dead-not_retired, dead-within}
use Rattle.gr_law_rebuilds.proofs.Epoch.Lost.{none-lost}

module _ {V A : Type 0} (P : Program V A) (t : Truth V) (c : Cluster V A) (AG : Agree P t c) (ps : List ℕ) where
  abbrev newborn : ℕ → Host V A
  newborn p = reborn_host (c.coordinator.epoch + 1) c.coordinator.commits (log c p).committed

  abbrev reborn : Change V A
  reborn = record {
    mode = mode.Recovering;
    live = c.coordinator.live;
    dead = c.coordinator.dead;
    reborn = ps;
    spares = c.coordinator.spares - length ps;
    hosts = changed_at ps (λ p _. Some (newborn p)) c.hosts;
    logs = changed_at ps (λ _. cut_log) c.logs;
  }

  abbrev d : Cluster V A
  d = opened t c reborn

  log-cut : (p : ℕ) → log d p ≡ (if has ps p then cut_log (log c p) else log c p)
  log-cut p = get_or-changed_at ps (λ _. cut_log) c.logs p empty_log refl

  committed-same : (p : ℕ) → (log d p).committed ≡ (log c p).committed
  committed-same p = ap (λ (l : Log). l.committed) (log-cut p) ∙ cut-committed (has ps p) (log c p)

  module _ (are : IsPlaces ps) (was_failed : is_failed c.coordinator.mode ≡ true) (are_dead : includes c.coordinator.dead ps ≡ true) (enough : length ps ≤ c.coordinator.spares)
      (none_lost : nat_lt 0 (length (lost_list c)) ≡ false) where
    none-reborn : c.coordinator.reborn ≡ []
    none-reborn = AG.committed.places.none_reborn (λ e. let bad : false ≡ true = sym (ap is_failed e) ∙ was_failed in cc)

    named-dead : (p : ℕ) → has ps p ≡ true → has c.coordinator.dead p ≡ true
    named-dead p y = has-included c.coordinator.dead ps p are_dead y

    -- what is not dead is not named
    unnamed : (p : ℕ) → has c.coordinator.dead p ≡ false → has ps p ≡ false
    unnamed p n = by_test (has ps p) (λ y. absurd (both_ways _ n (named-dead p y))) (λ m. m)

    keeps-host : (p : ℕ) → has ps p ≡ false → host d p ≡ host c p
    keeps-host p n = get_or-unchanged ps (λ q _. Some (newborn q)) c.hosts p None n

    -- a named place is up again
    begins : (p : ℕ) → has ps p ≡ true → host d p ≡ Some (newborn p)
    begins p y =
        let lt = dead-within c.coordinator c.places p (AG.committed.places.one_set p) (named-dead p y) in
        let many = AG.committed.shaped.hosts in
        within-changed_at ps (λ q _. Some (newborn q)) c.hosts p None (omega (arith, lt, many)) ∙ ap (λ b. if b then Some (newborn p) else host c p) y

    is-reborn : (p : ℕ) → has ps p ≡ true → (h : Host V A) → host d p ≡ Some h → IsReborn t c reborn p h
    is-reborn p y h at =
        let one = AG.committed.places.one_set p in
        let lt = dead-within c.coordinator c.places p one (named-dead p y) in
        let stays = dead-not_retired c.coordinator c.places p one (named-dead p y) in
        let same : Some h ≡ Some (newborn p) = sym at ∙ begins p y in
        record {
          is = cc;
          recovering = refl;
          reborn = y;
          cut = log-cut p ∙ ap (λ b. if b then cut_log (log c p) else log c p) y;
          entries = AG.committed.logs.entries p lt stays;
          arcs = AG.committed.logs.edges p lt stays;
        }

    reborn-opens : Opens t c reborn
    reborn-opens = record {
      shaped = let S = AG.committed.shaped in record {
        few = S.few;
        hosts = length-changed_at ps (λ p _. Some (newborn p)) c.hosts ∙ S.hosts;
        logs = length-changed_at ps (λ _. cut_log) c.logs ∙ S.logs;
        live = S.live;
        dead = S.dead;
        retired = S.retired;
        reborn = are;
        ready = record { rise = rises-nil (λ p. p); below = All-nil (λ p. p < 64) };
      };
      places = let W = AG.committed.places in record {
        one_set = W.one_set;
        reborn_dead = named-dead;
        none_dead = λ e. absurd (let bad : true ≡ false = e in cc);
        none_reborn = λ e. absurd (e refl);
        retired_down = λ p r.
            let n = by_test (has ps p) (λ y. absurd (both_ways _ (dead-not_retired c.coordinator c.places p (W.one_set p) (named-dead p y)) r)) (λ m. m) in
            ap is_some (keeps-host p n) ∙ W.retired_down p r;
        dead_down = λ p y n. ap is_some (keeps-host p n) ∙ W.dead_down p y (ap (λ l. has l p) none-reborn);
        done_up = λ e. absurd (let bad : mode.Recovering ≡ mode.Done = e in cc);
        spares = let few = W.spares in omega (arith, enough, few);
      };
      was_not_done = λ e. let bad : false ≡ true = sym (ap is_failed e) ∙ was_failed in cc;
      not_done = λ e. let bad : mode.Recovering ≡ mode.Done = e in cc;
      alive = λ e v there. none-lost P t c AG v there none_lost;
      live = λ p l. l;
      stays = λ p l. keeps-host p (unnamed p (live-not_dead c.coordinator c.places p (AG.committed.places.one_set p) l));
      logs = committed-same;
      hosts = λ p h at. by_test (has ps p)
          (λ y. inr (is-reborn p y h at))
          (λ n. inl (record { was = sym (keeps-host p n) ∙ at; not_reborn = n }));
    }

  -- where the epoch is new, the live places stay, and what is committed there
  abbrev Keeps : Cluster V A → Type 0
  Keeps r = IsNewEpoch c r → (r.coordinator.live ≡ c.coordinator.live) × IsLater P t c r

  recovered-later : IsPlaces ps → Keeps (recovered c ps).0
  unfolding recovered at_recovery
  recovered-later are = by_test (may_recover c.coordinator ps)
      (λ may. by_test (nat_lt 0 (length (lost_list c)))
      (λ lost. rw (may, lost) (λ new. absurd (new refl)))
      (λ lost.
      let both = and_parts (is_failed c.coordinator.mode) (includes c.coordinator.dead ps && nat_le (length ps) c.coordinator.spares) may in
      let more = and_parts (includes c.coordinator.dead ps) (nat_le (length ps) c.coordinator.spares) both.1 in
      rw (may, lost) (λ new. (refl, opened-later P t c AG reborn (reborn-opens are both.0 more.0 (leb-true (length ps) c.coordinator.spares more.1) lost)))))
      (λ may. rw may (λ new. absurd (new refl)))

  pub recovery-later : IsPlaces ps → Keeps (step P c (event.Recover ps)).0
  unfolding step
  recovery-later are = by_test (is_over c.coordinator.mode)
      (λ o. rw o (λ new. absurd (new refl)))
      (λ o. rw o (recovered-later are))
