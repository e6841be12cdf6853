-- Computing a stage, with rows and edges that the committed state says, keeps the invariant.
use Rattle.std.proofs.Common.{◌≡◌, ℕ, ◌+◌, ◌<◌, ◌≤◌, List, [], Bool, true, false, cond, not, nat_lt, refl, sym, ap, ◌∙◌, subst, arith, Option, Some, None, ltb-true, ltb-false}
use Rattle.std.specs.Prelude.{IsTrue, if◌then◌else◌}
use Rattle.std.specs.List.{list_any}
use Rattle.std.proofs.lemmas.Bool.{both_ways}
use Rattle.gr_base.specs.declared.records.NumberedEdge.{NumberedEdge}
use Rattle.gr_base.specs.Rising.{has}
use Rattle.gr_program.specs.declared.copy.VertexCopy.{VertexCopy}
use Rattle.gr_program.specs.Program.{Program}
use Rattle.gr_batch.specs.declared.stage.Stage.{Stage}
use Rattle.gr_batch.specs.Stages.{is_end, stage_after}
use Rattle.gr_batch.specs.Order.{place_in}
use Rattle.gr_view.specs.Modes.{is_failed, is_rebuild}
use Rattle.gr_view.specs.Decisions.{parties}
use Rattle.gr_rules.specs.Exchange.{Exchange, needed, unsent, passed}
use Rattle.gr_rules.specs.Todo.{Todo}
use Rattle.gr_cluster.specs.Tables.{Host, Cluster, host, with_host, view_of, wanted_in}
use Rattle.gr_cluster.specs.Stages.{stages_of, has_stage}
use Rattle.gr_cluster.specs.Todo.{others}
use Rattle.gr_cluster.specs.Place.{staged_rows, staged_arcs}
use Rattle.gr_cluster.specs.Work.{in_exchange, worked}
use Rattle.gr_agree.specs.Truth.{Truth}
use Rattle.gr_agree.specs.Hosts.{progress, HasNeeded, pending_rows, pending_arcs}
use Rattle.gr_agree.specs.Agree.{Agree}
use Rattle.gr_lists.proofs.Tests.{by_test}
use Rattle.gr_lists.proofs.Any.{find-none_of, find-one_of}
use Rattle.gr_law_rounds.specs.Network.{IsKept}
use Rattle.gr_law_rounds.proofs.Network.Frame.{host-with_host, host-with_host-other}
use Rattle.gr_law_rounds.proofs.Round.Network.{network-passed}
use Rattle.gr_law_rounds.proofs.Round.AtPlace.{place-le}
use Rattle.gr_law_rounds.proofs.Round.Line.{gone-more}
use Rattle.gr_law_rounds.proofs.Round.InEpoch.{Passes, before-or_same, now, at-epoch, network-here, other-party, work-keeps}

module _ {V A : Type 0} (P : Program V A) (t : Truth V) (c : Cluster V A) (AG : Agree P t c) (p : ℕ) (h : Host V A) (at : host c p ≡ Some h)
    (le : c.coordinator.commits ≤ h.installed) (le' : c.coordinator.epoch ≤ h.epoch) (comp : h.computed ≡ false) where
  pub progress-here : progress h ≡ place_in h.stage + 0
  progress-here = ap (λ b. place_in h.stage + cond b 1 0) comp

  -- a place that has not computed its stage has not reported
  not-reported : {X : Type 0} → IsTrue h.reported → X
  not-reported r = absurd (let five = ((at-epoch P t c AG p h at le le').reported r).0 in let small = place-le h.stage in let here = progress-here in omega (arith, five, small, here))

  abbrev HasFor : Stage → Type 0
  HasFor s = HasNeeded (others c.coordinator p) h.epoch h.inbox (needed (is_rebuild c.coordinator.mode) s)

  module _ (runs : is_failed c.coordinator.mode ≡ false) (rows : List (VertexCopy V)) (arcs : List NumberedEdge)
      (rows_true : rows ≡ pending_rows P (view_of P c) (wanted_in P c) t p (place_in h.stage + 1) (is_rebuild c.coordinator.mode))
      (arcs_true : arcs ≡ pending_arcs P (view_of P c) (wanted_in P c) t p (place_in h.stage + 1) (is_rebuild c.coordinator.mode))
      (ready : HasFor h.stage) (same_place : (s : Stage) → IsTrue (has_stage (stages_of c.coordinator.mode) s) → place_in h.stage ≡ place_in s → h.stage ≡ s)
      (passing : is_end h.stage ≡ false → Passes P t c p h.stage) where
    -- what the computed stage needed, and what those before it did
    needed-with : (s : Stage) → IsTrue (has_stage (stages_of c.coordinator.mode) s) → place_in s < place_in h.stage + 1 → HasFor s
    needed-with s y l = let here = progress-here in by_test (nat_lt (place_in s) (place_in h.stage))
        (λ e. let lt = ltb-true (place_in s) (place_in h.stage) e in (at-epoch P t c AG p h at le le').needed s y (omega (arith, lt, here)))
        (λ e. let ge = ltb-false (place_in s) (place_in h.stage) e in subst HasFor (same_place s y (omega (arith, ge, l))) ready)

    abbrev staged_host : Exchange → Host V A
    staged_host x = in_exchange x (record h { pending = rows; pending_arcs = arcs })

    not-failed : {X : Type 0} → IsTrue (is_failed c.coordinator.mode) → X
    not-failed f = absurd (both_ways _ runs f)

    -- it stays in its stage
    stays : (is_end h.stage ≡ false → IsTrue (list_any (λ q. not (has h.sent q)) (others c.coordinator p)))
        → IsKept P t c (with_host p (Some (staged_host (record { stage = h.stage; computed = true; sent = h.sent }))) c)
    stays left =
        let E = at-epoch P t c AG p h at le le' in
        let h' : Host V A = record h { pending = rows; pending_arcs = arcs; computed = true } in
        work-keeps P t c AG p h at le le' h' refl refl refl refl c.logs refl (λ q. refl) (λ q ne. refl) c.flight c.serial
        (record {
          installed = E.installed;
          stage = E.stage;
          idle = not-failed;
          not_sent = λ x. absurd (let bad : true ≡ false = x in cc);
          unsent_left = λ x n. left n;
          needed = needed-with;
          rows = rows_true;
          arcs = arcs_true;
          tail = E.tail;
          not_torn = E.not_torn;
          reported = not-reported;
        })
        (network-here P t c AG p h at h' refl (λ q s. refl)) refl

    -- it passes its stage, since there is no other party
    passes : is_end h.stage ≡ false → unsent (others c.coordinator p) [] ≡ None
        → IsKept P t c (with_host p (Some (staged_host (record { stage = stage_after h.stage; computed = false; sent = [] }))) c)
    passes en un =
        let E = at-epoch P t c AG p h at le le' in let N = passing en in
        let h' : Host V A = record h { pending = rows; pending_arcs = arcs; stage = stage_after h.stage; computed = false; sent = [] } in
        work-keeps P t c AG p h at le le' h' refl refl refl refl c.logs refl (λ q. refl) (λ q ne. refl) c.flight c.serial
        (record {
          installed = E.installed;
          stage = λ o. N.next;
          idle = not-failed;
          not_sent = λ x. refl;
          unsent_left = λ x. absurd (let bad : false ≡ true = x in cc);
          needed = λ s y l. needed-with s y (before-or_same P t c p h.stage N s y (omega (arith, l)));
          rows = rows_true ∙ N.rows;
          arcs = arcs_true ∙ N.arcs;
          tail = E.tail;
          not_torn = E.not_torn;
          reported = not-reported;
        })
        (network-passed P (view_of P c) (wanted_in P c) t c.coordinator (host c) (host (with_host p (Some h') c)) c.flight p h h' at (host-with_host c p h h' at) (host-with_host-other c p h h' at) AG.open_work.network refl
        (gone-more c.coordinator h (now P t c AG p h at le le') N.here en N.before_next)
        (λ q s m ne. absurd (let k = find-none_of (λ r. not (has [] r)) (others c.coordinator p) q un (other-party (parties c.coordinator) p q m ne) in both_ways _ k refl)))
        refl

    abbrev computed_in : Bool → Option ℕ → Exchange
    computed_in b o = let d : Exchange = record { stage = h.stage; computed = true; sent = h.sent } in if b then d else passed o d

    after-kept : (b : Bool) → is_end h.stage ≡ b → (o : Option ℕ) → unsent (others c.coordinator p) [] ≡ o → IsKept P t c (with_host p (Some (staged_host (computed_in b o))) c)
    after-kept true en o un = stays (λ n. absurd (both_ways _ n en))
    after-kept false en None un = passes en un
    after-kept false en (Some q) un = stays (λ n.
        subst (λ sent. IsTrue (list_any (λ r. not (has sent r)) (others c.coordinator p))) (sym ((at-epoch P t c AG p h at le le').not_sent comp)) (find-one_of (λ r. not (has [] r)) (others c.coordinator p) q un).2)

    pub computed-kept : staged_rows P c p h h.stage ≡ rows → staged_arcs P c p h h.stage ≡ arcs → IsKept P t c (worked P c p h Todo.Compute).0
    unfolding worked
    computed-kept is is' = subst (λ k. IsKept P t c (with_host p (Some k) c)) (λ i. in_exchange (computed_in (is_end h.stage) (unsent (others c.coordinator p) [])) (record h { pending = sym is i; pending_arcs = sym is' i }))
        (after-kept (is_end h.stage) refl (unsent (others c.coordinator p) []) refl)
