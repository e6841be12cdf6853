-- A place in a repair: nobody is dead, nobody asks, and the holders of each copy are live.
use Rattle.std.proofs.Common.{◌≡◌, ◌<◌, ℕ, [], ◌∷◌, true, false, cond, not, ◌==◌, ◌&&◌, ◌||◌, nat_lt, refl, sym, ap, ◌∙◌, subst, arith, Some, ltb-true, lt-ltb, ⊎_elim}
use Rattle.std.specs.List.{AllByRecursion as Each}
use Rattle.std.proofs.lemmas.Bool.{and_left, and_right, both_ways}
use Rattle.std.proofs.lemmas.List.Elements.{All-from_recursion}
use Rattle.gr_base.specs.declared.records.NumberedEdge.{NumberedEdge}
use Rattle.gr_base.specs.Rising.{has}
use Rattle.gr_program.specs.Program.{Program}
use Rattle.gr_copies.specs.declared.view.RebuildView.{RebuildView}
use Rattle.gr_batch.specs.declared.stage.Stage.TheVariants as stage
use Rattle.gr_batch.specs.Bodies.{asks_of}
use Rattle.gr_view.specs.declared.coordinator.Mode.TheVariants as mode
use Rattle.gr_view.specs.Modes.{is_rebuild, is_repair}
use Rattle.gr_rules.specs.Inbox.{bodies}
use Rattle.gr_rules.specs.Grants.{wanted, grant_body}
use Rattle.gr_repair.specs.Short.{IsHeldLive}
use Rattle.gr_cluster.specs.Tables.{Host, Cluster, host, view_of, wanted_in}
use Rattle.gr_cluster.specs.Todo.{others}
use Rattle.gr_cluster.specs.Place.{asked_for}
use Rattle.gr_agree.specs.Truth.{Truth, held, place_of, rows_at}
use Rattle.gr_agree.specs.Places.{sets_with, may_have_dead}
use Rattle.gr_agree.specs.Rebuilt.{is_taken_by, is_asker, true_asks, stable_at}
use Rattle.gr_agree.specs.Agree.{Agree}
use Rattle.gr_lists.proofs.Tests.{by_test}
use Rattle.gr_lists.proofs.Each.{Each-has, Each-always}
use Rattle.gr_lists.proofs.Any.{list_any-none, filter-none}
use Rattle.gr_law_rounds.proofs.Network.Kept.{up-party}
use Rattle.gr_law_rebuilds.proofs.Rebuild.Parties.{party-cases, stable-live}
use Rattle.gr_law_work.specs.InRebuild.{MayRepair}
use Rattle.gr_law_work.proofs.Relies.Lists.{all-each}
use Rattle.gr_law_rounds.proofs.Round.Codes.{said-of}
use Rattle.gr_law_work.proofs.Relies.Granted.{Each-bodies}
use Rattle.gr_law_work.proofs.Relies.Rows.{rows-meet}

module _ {V A : Type 0} (P : Program V A) (t : Truth V) (c : Cluster V A) (AG : Agree P t c) where
  -- each live place is one of the places
  live-within : (q : ℕ) → has c.coordinator.live q ≡ true → q < c.places
  live-within q l = by_test (nat_lt q c.places)
      (λ e. ltb-true q c.places e)
      (λ e. absurd (let one : sets_with c.coordinator q ≡ cond (nat_lt q c.places) 1 0 = AG.committed.places.one_set q in
      let is = rw e at one in let is' = rw l at is in omega (arith, is')))

  module _ (repairing : c.coordinator.mode ≡ mode.Repairing) where
    abbrev w : RebuildView
    w = view_of P c

    abbrev want : ℕ
    want = wanted_in P c

    rebuilding : is_rebuild c.coordinator.mode ≡ true
    rebuilding = ap is_rebuild repairing

    none-dead : c.coordinator.dead ≡ []
    none-dead = AG.committed.places.none_dead (subst (λ m. may_have_dead m ≡ false) (sym repairing) refl)

    not-dead : (q : ℕ) → has c.coordinator.dead q ≡ false
    not-dead q = ap (λ l. has l q) none-dead

    -- each holder is live
    holder-live : (v q : ℕ) → has t.vertices v ≡ true → held t q v ≡ true → has c.coordinator.live q ≡ true
    holder-live v q m k = by_test (has c.coordinator.live q)
        (λ l. l)
        (λ l. absurd (let H = AG.committed.logs.holders v q m k in let none = not-dead q in
        let one : sets_with c.coordinator q ≡ cond (nat_lt q c.places) 1 0 = AG.committed.places.one_set q in
        let is = rw (l, none, H.1, lt-ltb q c.places H.0) at one in omega (arith, is)))

    held-live : (p : ℕ) → Each (IsHeldLive c.coordinator.live) (rows_at P t p)
    held-live p = rows-meet P t p (IsHeldLive c.coordinator.live) (λ v m k. record {
      holders = all-each (has c.coordinator.live) (t.holders v) (Each-has (λ q. has c.coordinator.live q ≡ true) (t.holders v) (λ q y. holder-live v q m y));
      master = AG.committed.sound.master_holds v m;
    })

    -- where nobody is dead no edge is taken over, and nobody asks
    asks-nobody : (q p : ℕ) → true_asks w t q p ≡ []
    unfolding true_asks is_asker
    asks-nobody q p = filter-none _ t.vertices (list_any-none _ t.vertices (Each-always _ (λ v. and_left _ _ (and_right (not (held t q v)) _
        (list_any-none _ t.edges (Each-always (λ (a : NumberedEdge). (is_taken_by w t q a && ((a.edge.src == v) || (a.edge.dst == v))) ≡ false)
        (λ a. and_left _ _ (and_left _ _ (and_left _ _ (not-dead (place_of t a))))) t.edges)))) t.vertices))

    module _ (p : ℕ) (h : Host V A) (at : host c p ≡ Some h) (now : h.epoch ≡ c.coordinator.epoch) (stable : h.stable ≡ stable_at P w want t p) where
      live : has c.coordinator.live p ≡ true
      live = ⊎_elim
          (λ l. l)
          (λ r. absurd (both_ways _ (not-dead p) (AG.committed.places.reborn_dead p r)))
          (party-cases P t c AG rebuilding p (up-party P t c AG p h at))

      unasked : (v : ℕ) → asked_for P c p h v ≡ []
      unasked v = filter-none _ (others c.coordinator p) (list_any-none _ (others c.coordinator p) (Each-always _ (λ q.
          list_any-none (λ b. has (asks_of b) v) (bodies h.inbox h.epoch stage.Ask (q ∷ []))
          (Each-bodies P t c AG p h at now (λ b. has (asks_of b) v ≡ false) stage.Ask (λ r b is code. ap (λ l. has l v) (said-of P w want t r p stage.Ask b is code ∙ asks-nobody r p)) (q ∷ []))) (others c.coordinator p)))

      pub may-repair : MayRepair P c p h
      may-repair = record {
        ready = record {
          dead = none-dead;
          live = All-from_recursion (λ q. q < c.places) c.coordinator.live (Each-has (λ q. q < c.places) c.coordinator.live live-within);
          held = All-from_recursion (IsHeldLive c.coordinator.live) h.stable (subst (Each (IsHeldLive c.coordinator.live)) (sym (stable ∙ stable-live P t c AG rebuilding p live)) (held-live p));
          unasked = unasked;
        };
        grants = λ q. (λ i. grant_body w (wanted (is_repair (repairing i)) w) p (λ v. unasked v i) h.stable q);
      }
