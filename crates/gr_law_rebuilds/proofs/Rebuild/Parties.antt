-- What the invariant says of the places while a rebuild is open.
use Rattle.std.proofs.Common.{◌≡◌, ◌<◌, ℕ, ◌+◌, List, [], ◌∷◌, Bool, true, false, cond, not, ◌==◌, ◌&&◌, map, filter, nat_lt, refl, sym, ap, ◌∙◌, subst, arith, inl, inr, ◌⊎◌, ⊎_elim, Some, eqb-true, ne_eqb, lt-ltb, if◌then◌else◌}
use Rattle.std.specs.Prelude.{is_none}
use Rattle.std.proofs.lemmas.Bool.{and_parts, and_right, or_cases, or_left, both_ways, cond-true}
use Rattle.std.proofs.lemmas.Simd.{map-map}
use Rattle.gr_base.specs.Rising.{has, includes}
use Rattle.gr_base.proofs.Union.{has-union}
use Rattle.gr_program.specs.declared.copy.VertexCopy.{VertexCopy}
use Rattle.gr_program.specs.Program.{Program}
use Rattle.gr_copies.specs.Granter.{is_retiring}
use Rattle.gr_view.specs.declared.coordinator.Mode.{Mode}
use Rattle.gr_view.specs.declared.coordinator.Mode.TheVariants as mode
use Rattle.gr_view.specs.Modes.{is_rebuild}
use Rattle.gr_view.specs.Decisions.{parties}
use Rattle.gr_rules.specs.Rows.{row, blank_copy, blank_rows}
use Rattle.gr_rules.specs.Taken.{is_granter}
use Rattle.gr_cluster.specs.Tables.{Host, Cluster, host, log, view_of, wanted_in}
use Rattle.gr_agree.specs.Truth.{Truth, held, held_at, true_entry, entries_at, copy_at, rows_at, arcs_at}
use Rattle.gr_agree.specs.Places.{sets_with, may_have_dead}
use Rattle.gr_agree.specs.Rebuilt.{stable_at}
use Rattle.gr_agree.specs.Agree.{Agree}
use Rattle.gr_lists.proofs.Tests.{by_test}
use Rattle.gr_law_rounds.proofs.Network.Kept.{up-party}
use Rattle.gr_law_rebuilds.proofs.Epoch.Places.{has-included, live-not_dead, dead-not_retired, dead-within}
use Rattle.gr_law_rebuilds.proofs.Rebuild.Logged.{IsSaid}
use Rattle.gr_law_rebuilds.proofs.Rebuild.Granters.{granter-alive, granter-holds}

-- a rebuild is a recovery or a repair
recovery-or_repair : (m : Mode) → is_rebuild m ≡ true → (m ≡ mode.Recovering) ⊎ (m ≡ mode.Repairing)
recovery-or_repair mode.Recovering e = inl refl
recovery-or_repair mode.Repairing e = inr refl
recovery-or_repair _ e = absurd (let bad : false ≡ true = e in cc)

-- a layer of a copy for each of some vertices lacks exactly the others
row-lacks : {V : Type 0} (f : ℕ → VertexCopy V) → ((u : ℕ) → (f u).vertex ≡ u) → (g : ℕ → Bool) (vs : List ℕ) (v : ℕ) → is_none (row (map f (filter g vs)) v) ≡ not (has vs v && g v)
row-lacks f named g [] v = refl
row-lacks f named g (u ∷ vs) v = by_test (u == v)
    (λ e. let at : ((f u).vertex == v) ≡ true = ap (λ n. n == v) (named u) ∙ e in let same : g v ≡ g u = ap g (sym (eqb-true u v e)) in by_test (g u)
    (λ k. rw (k, e, at, same, k) refl)
    (λ k. rw (k, e, same, k) (row-lacks f named g vs v ∙ ap (λ b. not (has vs v && b)) (same ∙ k) ∙ ap not (and_right (has vs v) false refl))))
    (λ e. let at : ((f u).vertex == v) ≡ false = ap (λ n. n == v) (named u) ∙ e in by_test (g u)
    (λ k. rw (k, e, at) (row-lacks f named g vs v))
    (λ k. rw (k, e) (row-lacks f named g vs v)))

module _ {V A : Type 0} (P : Program V A) (t : Truth V) (c : Cluster V A) (AG : Agree P t c) (rebuilding : is_rebuild c.coordinator.mode ≡ true) where
  -- some holder of each vertex is not dead
  pub some-alive : (v : ℕ) → has t.vertices v ≡ true → includes c.coordinator.dead (t.holders v) ≡ false
  some-alive v m = ⊎_elim
      (λ e. AG.committed.logs.alive e v m)
      (λ e. by_test (includes c.coordinator.dead (t.holders v))
      (λ all. absurd (
      let none : c.coordinator.dead ≡ [] = AG.committed.places.none_dead (subst (λ x. may_have_dead x ≡ false) (sym e) refl) in
      let bad : false ≡ true = sym (ap (λ l. has l (t.master v)) none) ∙ has-included c.coordinator.dead (t.holders v) (t.master v) all (AG.committed.sound.master_holds v m) in cc))
      (λ n. n))
      (recovery-or_repair c.coordinator.mode rebuilding)

  pub within : (v q : ℕ) → has t.vertices v ≡ true → held t q v ≡ true → q < c.places
  within v q m h = (AG.committed.logs.holders v q m h).0

  -- what the log of a dead place says
  pub said : (r : ℕ) → has c.coordinator.dead r ≡ true → IsSaid t r (log c r).committed
  said r d =
      let one = AG.committed.places.one_set r in
      let lt = dead-within c.coordinator c.places r one d in let kept = dead-not_retired c.coordinator c.places r one d in
      record { entries = AG.committed.logs.entries r lt kept; edges = AG.committed.logs.edges r lt kept; once = AG.committed.logs.edges_once r lt kept }

  pub said-retiring : (r : ℕ) → is_retiring (view_of P c) r ≡ true → IsSaid t r (log c r).committed
  said-retiring r y = said r (and_parts (has c.coordinator.dead r) _ y).0

  -- a place that grants a vertex takes part
  pub granter-party : (v q : ℕ) → has t.vertices v ≡ true → is_granter (view_of P c) (true_entry t v) q ≡ true → has (parties c.coordinator) q ≡ true
  granter-party v q m g =
      let co = c.coordinator in
      let alive = granter-alive (view_of P c) (true_entry t v) q g in
      let G = AG.committed.logs.holders v q m (granter-holds (view_of P c) (true_entry t v) q (AG.committed.sound.master_holds v m) g) in
      let one : sets_with co q ≡ 1 = AG.committed.places.one_set q ∙ cond-true (nat_lt q c.places) 1 0 (lt-ltb q c.places G.0) in
      let live : has co.live q ≡ true = by_test (has co.live q) (λ l. l) (λ l. absurd (let one' = rw (l, alive, G.1) at one in omega (arith, one'))) in
      has-union q co.live co.reborn ∙ or_left _ _ live

  -- a live place is not reborn, and a party that is not dead is live
  pub live-not_reborn : (p : ℕ) → has c.coordinator.live p ≡ true → has c.coordinator.reborn p ≡ false
  live-not_reborn p l = by_test (has c.coordinator.reborn p)
      (λ r. absurd (both_ways _ (live-not_dead c.coordinator c.places p (AG.committed.places.one_set p) l) (AG.committed.places.reborn_dead p r)))
      (λ n. n)

  pub party-cases : (p : ℕ) → has (parties c.coordinator) p ≡ true → (has c.coordinator.live p ≡ true) ⊎ (has c.coordinator.reborn p ≡ true)
  party-cases p y = or_cases _ _ (sym (has-union p c.coordinator.live c.coordinator.reborn) ∙ y)

  -- the stable rows of a live place
  pub stable-live : (p : ℕ) → has c.coordinator.live p ≡ true → stable_at P (view_of P c) (wanted_in P c) t p ≡ rows_at P t p
  stable-live p l = ap (λ b. if b then map blank_copy (entries_at t p) else rows_at P t p) (live-not_reborn p l)

  -- what a place has that has installed every commit
  pub stable-here : (p : ℕ) (h : Host V A) → host c p ≡ Some h → h.installed ≡ c.coordinator.commits → (h.stable ≡ stable_at P (view_of P c) (wanted_in P c) t p) × (h.arcs ≡ arcs_at t p)
  unfolding blank_rows
  stable-here p h at e = ⊎_elim
      (λ l.
      let H = AG.committed.hosts p h at l in
      let later : (h.installed + 1 == c.coordinator.commits) ≡ false = ne_eqb (h.installed + 1) c.coordinator.commits (λ x. absurd (omega (arith, x, e))) in
      (sym (ap (λ b. cond b h.pending h.stable) later) ∙ (H.rows ∙ sym (stable-live p l)), sym (ap (λ b. cond b h.pending_arcs h.arcs) later) ∙ H.arcs))
      (λ r.
      let R = AG.open_work.reborn p h at r in let D = said p (AG.committed.places.reborn_dead p r) in
      (R.rows ∙ (ap (map blank_copy) D.entries ∙ sym (ap (λ b. if b then map blank_copy (entries_at t p) else rows_at P t p) r)), R.arcs ∙ D.edges))
      (party-cases p (up-party P t c AG p h at))

  -- which vertices it lacks
  pub stable-lacks : (p v : ℕ) → has t.vertices v ≡ true → is_none (row (stable_at P (view_of P c) (wanted_in P c) t p) v) ≡ not (held t p v)
  unfolding rows_at entries_at
  stable-lacks p v m = by_test (has c.coordinator.reborn p)
      (λ r. ap (λ b. is_none (row (if b then map blank_copy (entries_at t p) else rows_at P t p) v)) r
      ∙ (ap (λ l. is_none (row l v)) (map-map blank_copy (true_entry t) (held_at t p)) ∙ (row-lacks (λ u. blank_copy (true_entry t u)) (λ u. refl) (held t p) t.vertices v ∙ ap (λ b. not (b && held t p v)) m)))
      (λ r. ap (λ b. is_none (row (if b then map blank_copy (entries_at t p) else rows_at P t p) v)) r
      ∙ (row-lacks (copy_at P t p) (λ u. refl) (held t p) t.vertices v ∙ ap (λ b. not (b && held t p v)) m))
