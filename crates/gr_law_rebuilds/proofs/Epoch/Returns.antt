-- After a failure the hosts of reborn places go back to the spares, and no place is reborn.
use Rattle.std.proofs.Common.{◌≡◌, ◌≢◌, ◌<◌, ℕ, ◌+◌, List, [], true, false, cond, not, ◌&&◌, refl, sym, ap, ◌∙◌, arith, Some, None, length, inl, ◌⊎◌, ⊎_elim}
use Rattle.std.specs.Prelude.{is_some, if◌then◌else◌}
use Rattle.std.proofs.lemmas.List.Elements.{All-nil}
use Rattle.std.proofs.lemmas.Bool.{and_left, both_ways}
use Rattle.gr_base.specs.Rising.{has}
use Rattle.gr_base.specs.Places.{IsPlaces}
use Rattle.gr_base.proofs.Rising.{rises-nil}
use Rattle.gr_program.specs.Program.{Program}
use Rattle.gr_log.specs.Log.{Log, empty_log, cut_log}
use Rattle.gr_view.specs.declared.coordinator.Mode.TheVariants as mode
use Rattle.gr_view.specs.Decisions.{going_back}
use Rattle.gr_cluster.specs.Tables.{Host, Cluster, changed_at, host, is_up, log}
use Rattle.gr_agree.specs.Truth.{Truth}
use Rattle.gr_agree.specs.Agree.{Agree}
use Rattle.gr_lists.proofs.Tests.{by_test}
use Rattle.gr_law_rebuilds.proofs.Epoch.Opened.{Change, opened, Opens}
use Rattle.gr_law_rebuilds.proofs.Epoch.Tables.{cut-committed, length-changed_at, get_or-changed_at}
use Rattle.gr_law_rebuilds.proofs.Epoch.Places.{has-without, length-without, live-not_dead}

module _ {V A : Type 0} (P : Program V A) (t : Truth V) (c : Cluster V A) (AG : Agree P t c) (ps live dead : List ℕ) where
  abbrev back : List ℕ
  back = going_back c.coordinator ps

  abbrev pub returned : Change V A
  returned = record {
    mode = mode.Failed;
    live = live;
    dead = dead;
    reborn = [];
    spares = c.coordinator.spares + length back;
    hosts = changed_at back (λ _ _. None) c.hosts;
    logs = changed_at back (λ _. cut_log) c.logs;
  }

  abbrev d : Cluster V A
  d = opened t c returned

  -- some places crashed, and of these some that were live may be dead now
  pub record Returns : Type 0 where
    pub live_places : IsPlaces live
    pub dead_places : IsPlaces dead
    pub one_set : (p : ℕ) → cond {A = ℕ} (has live p) 1 0 + cond (has dead p) 1 0 ≡ cond (has c.coordinator.live p) 1 0 + cond (has c.coordinator.dead p) 1 0
    pub was_live : (p : ℕ) → has live p ≡ true → has c.coordinator.live p ≡ true
    pub was_dead : (p : ℕ) → has dead p ≡ true → (has c.coordinator.dead p ≡ true) ⊎ (is_up c p ≡ false)
    pub crashed : (p : ℕ) → has ps p ≡ true → is_up c p ≡ false

  host-returned : (p : ℕ) → host d p ≡ (if has back p then None else host c p)
  host-returned p = get_or-changed_at back (λ _ _. None) c.hosts p None refl

  log-returned : (p : ℕ) → log d p ≡ (if has back p then cut_log (log c p) else log c p)
  log-returned p = get_or-changed_at back (λ _. cut_log) c.logs p empty_log refl

  -- a place that goes back is down, and each other has its host
  goes-down : (p : ℕ) → has back p ≡ true → host d p ≡ None
  goes-down p y = host-returned p ∙ ap (λ b. if b then None else host c p) y

  keeps-host : (p : ℕ) → has back p ≡ false → host d p ≡ host c p
  keeps-host p n = host-returned p ∙ ap (λ b. if b then None else host c p) n

  was-host : (p : ℕ) (h : Host V A) → host d p ≡ Some h → host c p ≡ Some h
  was-host p h at = by_test (has back p)
      (λ y. absurd (let bad : None ≡ Some h = sym (goes-down p y) ∙ at in cc))
      (λ n. sym (keeps-host p n) ∙ at)

  -- no more is up than before
  up-before : (p : ℕ) → is_up c p ≡ false → is_up d p ≡ false
  up-before p off = by_test (has back p)
      (λ y. ap is_some (goes-down p y))
      (λ n. ap is_some (keeps-host p n) ∙ off)

  committed-same : (p : ℕ) → (log d p).committed ≡ (log c p).committed
  committed-same p = ap (λ (l : Log). l.committed) (log-returned p) ∙ cut-committed (has back p) (log c p)

  module _ (R : Returns) where
    -- a reborn place crashed, or goes back
    reborn-down : (p : ℕ) → has c.coordinator.reborn p ≡ true → is_up d p ≡ false
    reborn-down p y = by_test (has ps p)
        (λ k. up-before p (R.crashed p k))
        (λ k. ap is_some (goes-down p (has-without c.coordinator.reborn ps p ∙ (ap (λ b. b && not (has ps p)) y ∙ ap not k))))

    dead-down : (p : ℕ) → has dead p ≡ true → is_up d p ≡ false
    dead-down p y = ⊎_elim
        (λ k. by_test (has c.coordinator.reborn p) (reborn-down p) (λ n. up-before p (AG.committed.places.dead_down p k n)))
        (up-before p)
        (R.was_dead p y)

    -- a live place was not reborn, and so has its host
    live-stays : (p : ℕ) → has live p ≡ true → host d p ≡ host c p
    live-stays p l = keeps-host p (has-without c.coordinator.reborn ps p ∙ and_left _ _ (by_test (has c.coordinator.reborn p)
        (λ y. absurd (both_ways _ (live-not_dead c.coordinator c.places p (AG.committed.places.one_set p) (R.was_live p l)) (AG.committed.places.reborn_dead p y)))
        (λ n. n)))

    pub returned-opens : c.coordinator.mode ≢ mode.Done → Opens t c returned
    returned-opens goes_on = record {
      shaped = let S = AG.committed.shaped in record {
        few = S.few;
        hosts = length-changed_at back (λ _ _. None) c.hosts ∙ S.hosts;
        logs = length-changed_at back (λ _. cut_log) c.logs ∙ S.logs;
        live = R.live_places;
        dead = R.dead_places;
        retired = S.retired;
        reborn = record { rise = rises-nil (λ p. p); below = All-nil (λ p. p < 64) };
        ready = record { rise = rises-nil (λ p. p); below = All-nil (λ p. p < 64) };
      };
      places = let W = AG.committed.places in record {
        one_set = λ p. ap (λ n. n + cond (has c.coordinator.retired p) 1 0) (R.one_set p) ∙ W.one_set p;
        reborn_dead = λ p y. absurd (let bad : false ≡ true = y in cc);
        none_dead = λ e. absurd (let bad : true ≡ false = e in cc);
        none_reborn = λ e. refl;
        retired_down = λ p r. up-before p (W.retired_down p r);
        dead_down = λ p y r. dead-down p y;
        done_up = λ e. absurd (let bad : mode.Failed ≡ mode.Done = e in cc);
        spares = let less = length-without c.coordinator.reborn ps in let few = W.spares in omega (arith, less, few);
      };
      was_not_done = goes_on;
      not_done = λ e. let bad : mode.Failed ≡ mode.Done = e in cc;
      alive = λ e. absurd (let bad : mode.Failed ≡ mode.Recovering = e in cc);
      live = R.was_live;
      stays = live-stays;
      logs = committed-same;
      hosts = λ p h at. inl (record { was = was-host p h at; not_reborn = refl });
    }
