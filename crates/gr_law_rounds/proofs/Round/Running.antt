-- What the invariant says of the parties while no rebuild is open, and of a place's rows.
use Rattle.std.proofs.Common.{◌≡◌, ◌≢◌, ℕ, ◌+◌, [], true, false, cond, ◌==◌, ◌||◌, nat_lt, refl, sym, ap, ◌∙◌, arith, Some, ne_eqb, lt-ltb}
use Rattle.std.specs.List.{AllByRecursion as Each}
use Rattle.std.proofs.Math.Bool.{or-false}
use Rattle.std.proofs.lemmas.Bool.{cond-true}
use Rattle.gr_base.specs.Rising.{RisesBy, has, union}
use Rattle.gr_base.proofs.Union.{union-rises, union-nil}
use Rattle.gr_program.specs.Program.{Program}
use Rattle.gr_program.specs.ProgramLaws.{ProgramLaws}
use Rattle.gr_view.specs.declared.coordinator.Mode.{Mode}
use Rattle.gr_view.specs.declared.coordinator.Mode.TheVariants as mode
use Rattle.gr_view.specs.Modes.{is_open, is_round, is_rebuild}
use Rattle.gr_view.specs.Decisions.{parties}
use Rattle.gr_cluster.specs.Tables.{Host, Cluster, host}
use Rattle.gr_agree.specs.Truth.{Truth, high, place_of, rows_at, arcs_at}
use Rattle.gr_agree.specs.Places.{sets_with}
use Rattle.gr_agree.specs.Hosts.{HostHolds}
use Rattle.gr_agree.specs.Agree.{Agree}
use Rattle.gr_lists.proofs.Tests.{by_test}
use Rattle.gr_lists.proofs.Each.{Each-both}
use Rattle.gr_law_rounds.proofs.Bodies.Fold.{occurs, occurs-once}
use Rattle.gr_law_rounds.proofs.Bodies.Steady.{Steady, steady}
use Rattle.gr_law_rounds.proofs.Network.Kept.{up-party}

-- a mode with no rebuild is none with reborn places
pub not-recovering : (m : Mode) → is_rebuild m ≡ false → m ≢ mode.Recovering
not-recovering m e is = let bad : true ≡ false = sym (ap is_rebuild is) ∙ e in cc

pub is-round : (m : Mode) → is_round m ≡ true → m ≡ mode.Running
is-round mode.Running y = refl
is-round _ y = absurd (let bad : false ≡ true = y in cc)

-- where work is open and no rebuild is, a round is
pub is-running : (m : Mode) → is_rebuild m ≡ false → is_open m ≡ true → m ≡ mode.Running
is-running m e o = is-round m (sym (or-false (is_round m)) ∙ (sym (ap (λ b. is_round m || b) e) ∙ o))

module _ {V A : Type 0} (P : Program V A) (t : Truth V) (c : Cluster V A) (AG : Agree P t c) (no_rebuild : is_rebuild c.coordinator.mode ≡ false) where
  pub no-reborn : c.coordinator.reborn ≡ []
  no-reborn = AG.committed.places.none_reborn (not-recovering c.coordinator.mode no_rebuild)

  -- the parties are the live places
  pub parties-live : parties c.coordinator ≡ c.coordinator.live
  parties-live = ap (union c.coordinator.live) no-reborn ∙ union-nil c.coordinator.live

  pub party-live : (p : ℕ) → has (parties c.coordinator) p ≡ true → has c.coordinator.live p ≡ true
  party-live p party = sym (ap (λ l. has l p) parties-live) ∙ party

  pub parties-rise : RisesBy (λ p. p) (parties c.coordinator)
  parties-rise = let S = AG.committed.shaped in union-rises c.coordinator.live c.coordinator.reborn S.live.rise S.reborn.rise

  pub holds-at : (p : ℕ) (h : Host V A) → host c p ≡ Some h → HostHolds P t c.coordinator.commits p h
  holds-at p h at = AG.committed.hosts p h at (party-live p (up-party P t c AG p h at))

  -- a host that has installed every commit shows its stable layer
  pub shows-stable : (p : ℕ) (h : Host V A) → host c p ≡ Some h → h.installed ≡ c.coordinator.commits → (h.stable ≡ rows_at P t p) × (h.arcs ≡ arcs_at t p)
  shows-stable p h at e =
      let H = holds-at p h at in
      let no : (h.installed + 1 == c.coordinator.commits) ≡ false = ne_eqb (h.installed + 1) c.coordinator.commits (λ x. absurd (omega (arith, x, e))) in
      (sym (ap (λ b. cond b h.pending h.stable) no) ∙ H.rows, sym (ap (λ b. cond b h.pending_arcs h.arcs) no) ∙ H.arcs)

  module _ (none_dead : c.coordinator.dead ≡ []) where
    -- the master of each vertex is a party
    pub mastered : (v : ℕ) → has t.vertices v ≡ true → has (parties c.coordinator) (t.master v) ≡ true
    mastered v there =
        let m = t.master v in let co = c.coordinator in
        let G = AG.committed.logs.holders v m there (AG.committed.sound.master_holds v there) in
        let one : sets_with co m ≡ 1 = AG.committed.places.one_set m ∙ cond-true (nat_lt m c.places) 1 0 (lt-ltb m c.places G.0) in
        let dead : has co.dead m ≡ false = ap (λ l. has l m) none_dead in
        let live : has co.live m ≡ true = by_test (has co.live m) (λ l. l) (λ l. absurd (let one' = rw (l, dead, G.1) at one in omega (arith, one'))) in
        ap (λ l. has l m) parties-live ∙ live

    -- the place of each edge is a party, once
    pub placed : Each (λ a. occurs (place_of t a) (parties c.coordinator) ≡ 1) t.edges
    placed = Each-both _ _ _ (λ a s d. occurs-once (parties c.coordinator) parties-rise (place_of t a) (by_test (high t a.edge.dst)
        (λ e. ap (λ b. has (parties c.coordinator) (cond b (t.master a.edge.src) (t.master a.edge.dst))) e ∙ mastered a.edge.src s)
        (λ e. ap (λ b. has (parties c.coordinator) (cond b (t.master a.edge.src) (t.master a.edge.dst))) e ∙ mastered a.edge.dst d))) t.edges AG.committed.sound.sources AG.committed.sound.targets

  pub steady-here : ProgramLaws P → Steady P t
  steady-here L = steady P L t AG.committed.sound c.coordinator.round AG.committed.round.state
