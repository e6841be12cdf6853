-- What the invariant gives of a cluster in which a rebuild is open.
use Rattle.std.proofs.Common.{◌≡◌, ℕ, zero, suc, List, [], ◌∷◌, true, false, not, ◌&&◌, refl, sym, ap, ◌∙◌, ⊎_elim, take}
use Rattle.std.proofs.lemmas.Bool.{and_parts, or_cases, or_left, or_right}
use Rattle.gr_base.specs.Rising.{has, includes, union, without}
use Rattle.gr_base.specs.Places.{ring}
use Rattle.gr_base.proofs.Union.{has-union}
use Rattle.gr_program.specs.Program.{Program}
use Rattle.gr_copies.specs.Granter.{is_retiring}
use Rattle.gr_copies.specs.Holders.{extras}
use Rattle.gr_view.specs.declared.coordinator.Mode.{Mode}
use Rattle.gr_view.specs.declared.coordinator.Mode.TheVariants as mode
use Rattle.gr_view.specs.Modes.{is_rebuild}
use Rattle.gr_view.specs.Decisions.{parties}
use Rattle.gr_rules.specs.Grants.{extra_holders}
use Rattle.gr_cluster.specs.Tables.{Cluster, view_of, wanted_in}
use Rattle.gr_agree.specs.Truth.{Truth, held, true_entry}
use Rattle.gr_agree.specs.Rebuilt.{is_asker, true_askers, rebuilt}
use Rattle.gr_agree.specs.Places.{may_have_dead}
use Rattle.gr_agree.specs.Agree.{Agree}
use Rattle.gr_lists.proofs.Tests.{by_test}
use Rattle.gr_lists.proofs.Any.{has-filter}
use Rattle.gr_law_rebuilds.proofs.Restore.Fits.{Fits}
use Rattle.gr_law_rebuilds.proofs.Restore.Granter.{ring-within}
use Rattle.gr_law_rebuilds.proofs.Restore.Holders.{holder-became}
use Rattle.gr_law_rebuilds.proofs.Restore.Parties.{unretired-live}

-- a place among some that are dead, where none is dead
includes-none : (m : ℕ) (hs : List ℕ) → has hs m ≡ true → includes [] hs ≡ false
includes-none m [] h = absurd (let bad : false ≡ true = h in cc)
includes-none m (x ∷ hs) h = refl

has-take : (n q : ℕ) (xs : List ℕ) → has (take n xs) q ≡ true → has xs q ≡ true
has-take zero q [] h = absurd (let bad : false ≡ true = h in cc)
has-take (suc n) q [] h = absurd (let bad : false ≡ true = h in cc)
has-take zero q (x ∷ xs) h = absurd (let bad : false ≡ true = h in cc)
has-take (suc n) q (x ∷ xs) h = ⊎_elim (λ e. or_left _ _ e) (λ k. or_right _ _ (has-take n q xs k)) (or_cases _ _ h)

-- a further holder is a live place
extras-live : (live : List ℕ) (need master : ℕ) (holders : List ℕ) (q : ℕ) → has (extras live need master holders) q ≡ true → has live q ≡ true
extras-live live need master holders q h =
    ring-within master q live (and_parts _ _ (sym (has-filter (λ x. not (has holders x)) (ring master live) q) ∙ has-take _ q (without (ring master live) holders) h)).0

module _ {V A : Type 0} (P : Program V A) (t : Truth V) (c : Cluster V A) (AG : Agree P t c) (rebuilding : is_rebuild c.coordinator.mode ≡ true) where
  -- some holder of each vertex is not dead: in a repair no place is
  some-left : (v : ℕ) → has t.vertices v ≡ true → includes c.coordinator.dead (t.holders v) ≡ false
  some-left v there = of c.coordinator.mode refl rebuilding
    where
      of : (m : Mode) → c.coordinator.mode ≡ m → is_rebuild m ≡ true → includes c.coordinator.dead (t.holders v) ≡ false
      of mode.Recovering is y = AG.committed.logs.alive is v there
      of mode.Repairing is y =
          ap (λ l. includes l (t.holders v)) (AG.committed.places.none_dead (ap may_have_dead is))
          ∙ includes-none (t.master v) (t.holders v) (AG.committed.sound.master_holds v there)
      of mode.Running is y = absurd (let bad : false ≡ true = y in cc)
      of _ is y = absurd (let bad : false ≡ true = y in cc)

  pub fits-here : Fits (view_of P c) t
  fits-here = record {
    few = AG.committed.shaped.few;
    reborn_dead = AG.committed.places.reborn_dead;
    holders = AG.committed.sound.holders;
    master_holds = AG.committed.sound.master_holds;
    within = λ v q there h. (AG.committed.logs.holders v q there h).0;
    live = λ v q there h n. let k = AG.committed.logs.holders v q there h in unretired-live c.places _ c.coordinator AG.committed.places q k.0 k.1 n;
    left = some-left;
  }

  -- a new holder is a party
  pub new-holder_party : (v : ℕ) → has t.vertices v ≡ true → (q : ℕ) → held (rebuilt P (view_of P c) (wanted_in P c) t) q v ≡ true → has (parties c.coordinator) q ≡ true
  new-holder_party v there q h = ⊎_elim old (λ n. ⊎_elim asker extra (or_cases _ _ n)) (or_cases _ _ (holder-became P (view_of P c) (wanted_in P c) t v q h).1)
    where
      old : (held t q v && not (is_retiring (view_of P c) q)) ≡ true → has (parties c.coordinator) q ≡ true
      old k = let both = and_parts _ _ k in has-union q c.coordinator.live c.coordinator.reborn ∙ by_test (has c.coordinator.dead q)
          (λ e. by_test (has c.coordinator.reborn q)
          (λ b. or_right _ _ b)
          (λ b. absurd (let bad : false ≡ true = sym (λ i. not (e i && not (b i))) ∙ both.1 in cc)))
          (λ e. or_left _ _ (fits-here.live v q there both.0 e))

      asker : has (true_askers (view_of P c) t v) q ≡ true → has (parties c.coordinator) q ≡ true
      asker k = (and_parts _ _ (sym (has-filter (is_asker (view_of P c) t v) (union c.coordinator.live c.coordinator.reborn) q) ∙ k)).0

      extra : has (extra_holders (view_of P c) (wanted_in P c) (true_entry t v)) q ≡ true → has (parties c.coordinator) q ≡ true
      extra k = has-union q c.coordinator.live c.coordinator.reborn ∙ or_left _ _ (extras-live c.coordinator.live (wanted_in P c) (t.master v) (t.holders v) q k)
