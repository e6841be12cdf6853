-- The targets that are kept, and the hosts that they are of.
use Rattle.std.proofs.Common.{◌≡◌, ◌≢◌, ◌<◌, ◌∙◌, ℕ, zero, suc, List, [], ◌∷◌, ◌++◌, replicate, true, false, refl, sym, ap, Option, Some, None, get_or, set, length, nat_lt, get_or-set_same, get_or-set_other}
use Rattle.std.specs.Prelude.{IsTrue}
use Rattle.gr_base.specs.Places.{without_place}
use Rattle.gr_program.specs.Program.{Program}
use Rattle.gr_batch.specs.declared.batch.Batch.{Batch}
use Rattle.gr_batch.specs.declared.stage.Stage.{Stage}
use Rattle.gr_batch.specs.Bodies.{stage_of_body}
use Rattle.gr_lists.proofs.Tests.{by_test, by_same}
use Rattle.gr_rules.specs.Todo.{Todo}
use Rattle.gr_signal.specs.declared.target.Target.{Target}
use Rattle.gr_round.specs.Todo.{is_told}
use Rattle.gr_round.specs.Kept.{targets_at, takes_targets, is_of_targets}
use Rattle.gr_round.proofs.Later.{targets_at-later}
use Rattle.gr_cluster.specs.Tables.{Host, Cluster}
use Rattle.gr_cluster.specs.Network.{received, delivered}
use Rattle.gr_core.specs.Targets.{TargetsFit, StandAsBefore, forgotten, targets_of}

some-same : {X : Type 0} (x y : X) → Some x ≡ Some y → x ≡ y
some-same x y e = cc

module _ {V A : Type 0} where
  pub stand-refl : (hosts : List (Option (Host V A))) → StandAsBefore hosts hosts
  stand-refl hosts = λ p h at. record { before = h; is = at; stable = refl; arcs = refl; inbox = refl }

  pub stand-same : (hosts after : List (Option (Host V A))) → after ≡ hosts → StandAsBefore hosts after
  stand-same hosts after is = λ p h at. record { before = h; is = ap (λ hs. get_or hs p None) (sym is) ∙ at; stable = refl; arcs = refl; inbox = refl }

  pub stand-trans : (hosts between after : List (Option (Host V A))) → StandAsBefore hosts between → StandAsBefore between after → StandAsBefore hosts after
  stand-trans hosts between after s u = λ p h at. let b = u p h at in let a = s p b.before b.is in
      record { before = a.before; is = a.is; stable = b.stable ∙ a.stable; arcs = b.arcs ∙ a.arcs; inbox = b.inbox ∙ a.inbox }

  -- one host changes, but neither its copies that count, nor its edges, nor its inbox
  pub stand-set : (hosts after : List (Option (Host V A))) (p : ℕ) (h g : Host V A) → p < length hosts → get_or hosts p None ≡ Some h → after ≡ set hosts p (Some g)
      → g.stable ≡ h.stable → g.arcs ≡ h.arcs → g.inbox ≡ h.inbox → StandAsBefore hosts after
  stand-set hosts after p h g lt at is stable arcs inbox = λ q k here. by_same q p
      (λ e. let new : Some g ≡ Some k = sym (ap (λ hs. get_or hs q None) is ∙ (ap (λ n. get_or (set hosts p (Some g)) n None) e ∙ get_or-set_same hosts p (Some g) None lt)) ∙ here in
      let same : g ≡ k = some-same g k new in
      record {
        before = h;
        is = ap (λ n. get_or hosts n None) e ∙ at;
        stable = ap (λ x. x.stable) (sym same) ∙ stable;
        arcs = ap (λ x. x.arcs) (sym same) ∙ arcs;
        inbox = ap (λ x. x.inbox) (sym same) ∙ inbox;
      })
      (λ ne. record {
        before = k;
        is = sym (ap (λ hs. get_or hs q None) is ∙ get_or-set_other hosts p q (Some g) None ne) ∙ here;
        stable = refl;
        arcs = refl;
        inbox = refl;
      })

  -- where there is no host none comes
  pub stand-none : (hosts after : List (Option (Host V A))) (p : ℕ) → p < length hosts → after ≡ set hosts p None → StandAsBefore hosts after
  stand-none hosts after p lt is = λ q k here. by_same q p
      (λ e. let gone : None ≡ Some k = sym (ap (λ hs. get_or hs q None) is ∙ (ap (λ n. get_or (set hosts p None) n None) e ∙ get_or-set_same hosts p None None lt)) ∙ here in absurd (cc))
      (λ ne. record {
        before = k;
        is = sym (ap (λ hs. get_or hs q None) is ∙ get_or-set_other hosts p q None None ne) ∙ here;
        stable = refl;
        arcs = refl;
        inbox = refl;
      })

-- what only tells something takes no targets
pub told-takes : (s : Stage) (x : Todo) → IsTrue (is_told x) → takes_targets s x ≡ false
told-takes s (Todo.Wait r q) t = refl
told-takes s Todo.Report t = refl
told-takes s Todo.Rest t = refl
told-takes s Todo.Compute t = absurd (let bad : false ≡ true = t in cc)
told-takes s (Todo.Send q) t = absurd (let bad : false ≡ true = t in cc)
told-takes s Todo.Install t = absurd (let bad : false ≡ true = t in cc)
told-takes s Todo.Adopt t = absurd (let bad : false ≡ true = t in cc)
told-takes s Todo.Append t = absurd (let bad : false ≡ true = t in cc)

get_or-replicate_same : {X : Type 0} (n p : ℕ) (d : X) → get_or (replicate n d) p d ≡ d
get_or-replicate_same zero p d = refl
get_or-replicate_same (suc n) zero d = refl
get_or-replicate_same (suc n) (suc p) d = get_or-replicate_same n p d

-- what stands at a place is what was put there
set-here : {X : Type 0} (xs : List (Option X)) (p : ℕ) (x : Option X) (y : X) → get_or (set xs p x) p None ≡ Some y → x ≡ Some y
set-here [] p x y is = absurd (cc)
set-here (z ∷ xs) zero x y is = is
set-here (z ∷ xs) (suc p) x y is = set-here xs p x y is

-- if nothing is kept, no targets are
pub no-targets : (kept : List (Option (List Target))) → ((p : ℕ) → get_or kept p None ≡ None) → (q : ℕ) (targets : List Target) → get_or kept q None ≡ Some targets → ⊥
no-targets kept none q targets here = let gone : None ≡ Some targets = sym (none q) ∙ here in cc

pub no-targets_at-load : (kept : List (Option (List Target))) → kept ≡ replicate 64 None → (q : ℕ) (targets : List Target) → get_or kept q None ≡ Some targets → ⊥
no-targets_at-load kept is = no-targets kept (λ p. ap (λ l. get_or l p None) is ∙ get_or-replicate_same 64 p None)

module _ {V A : Type 0} (P : Program V A) (e : ℕ) (ps : List ℕ) where
  -- what fits the hosts fits those that stand as they did
  pub fit-stand : (hosts after : List (Option (Host V A))) (kept : List (Option (List Target))) → StandAsBefore hosts after → TargetsFit P e ps hosts kept → TargetsFit P e ps after kept
  fit-stand hosts after kept s fit = λ p targets h here at. let b = s p h at in
      fit p targets b.before here b.is ∙ (λ i. targets_at P p e (without_place ps p) (sym b.inbox i) (sym b.stable i) (sym b.arcs i))

  -- the targets of a place are kept
  pub fit-kept : (hosts : List (Option (Host V A))) (kept after : List (Option (List Target))) (p : ℕ) (ts : List Target) (h : Host V A)
      → get_or hosts p None ≡ Some h → ts ≡ targets_of P e ps p h → after ≡ set kept p (Some ts) → TargetsFit P e ps hosts kept → TargetsFit P e ps hosts after
  fit-kept hosts kept after p ts h at is new fit = λ q targets k here there. by_same q p
      (λ same. let put : Some ts ≡ Some targets = set-here kept p (Some ts) targets (ap (λ l. get_or l p None) (sym new) ∙ (ap (λ n. get_or after n None) (sym same) ∙ here)) in
      let host : h ≡ k = some-same h k (sym at ∙ (ap (λ n. get_or hosts n None) (sym same) ∙ there)) in
      sym (some-same ts targets put) ∙ (is ∙ (λ i. targets_of P e ps (sym same i) (host i))))
      (λ ne. fit q targets k (sym (ap (λ l. get_or l q None) new ∙ get_or-set_other kept p q (Some ts) None ne) ∙ here) there)

  -- those of a place are forgotten
  fit-without : (hosts after : List (Option (Host V A))) (kept : List (Option (List Target))) (p : ℕ) → ((q : ℕ) → q ≢ p → get_or after q None ≡ get_or hosts q None)
      → TargetsFit P e ps hosts kept → TargetsFit P e ps after (set kept p None)
  fit-without hosts after kept p others fit = λ q targets k here there. by_same q p
      (λ same. absurd (let gone : None ≡ Some targets = set-here kept p None targets (ap (λ n. get_or (set kept p None) n None) (sym same) ∙ here) in cc))
      (λ ne. fit q targets k (sym (get_or-set_other kept p q None None ne) ∙ here) (sym (others q ne) ∙ there))

  -- a batch that the targets do not depend on comes to its receiver
  at-receiver : (b : Batch V A) (o : Option (Host V A)) (k : Host V A) (targets : List Target) → is_of_targets (stage_of_body b.body) ≡ true → received b o ≡ Some k
      → ((h : Host V A) → o ≡ Some h → targets ≡ targets_of P e ps b.receiver h) → targets ≡ targets_of P e ps b.receiver k
  at-receiver b None k targets later is fit = absurd (cc)
  at-receiver b (Some h) k targets later is fit = by_test (nat_lt b.epoch h.epoch)
      (λ stale. let same : h ≡ k = some-same h k (sym (rw stale refl) ∙ is) in fit h refl ∙ ap (targets_of P e ps b.receiver) same)
      (λ taken. let same : record h { inbox = h.inbox ++ b ∷ [] } ≡ k = some-same (record h { inbox = h.inbox ++ b ∷ [] }) k (sym (rw taken refl) ∙ is) in
      fit h refl ∙ sym (targets_at-later h.inbox b e P b.receiver (without_place ps b.receiver) h.stable h.arcs later) ∙ ap (targets_of P e ps b.receiver) same)

  fit-received : (hosts : List (Option (Host V A))) (kept : List (Option (List Target))) (b : Batch V A)
      → TargetsFit P e ps hosts kept → TargetsFit P e ps (set hosts b.receiver (received b (get_or hosts b.receiver None))) (forgotten (Some b) kept)
  fit-received hosts kept b fit = by_test (is_of_targets (stage_of_body b.body))
      (λ later. rw later (λ q targets k here there. by_same q b.receiver
      (λ same. let put = set-here hosts b.receiver (received b (get_or hosts b.receiver None)) k (ap (λ n. get_or (set hosts b.receiver (received b (get_or hosts b.receiver None))) n None) (sym same) ∙ there) in
      at-receiver b (get_or hosts b.receiver None) k targets later put (λ h at. fit b.receiver targets h (ap (λ n. get_or kept n None) (sym same) ∙ here) at) ∙ (λ i. targets_of P e ps (sym same i) k))
      (λ ne. fit q targets k here (sym (get_or-set_other hosts b.receiver q (received b (get_or hosts b.receiver None)) None ne) ∙ there))))
      (λ now. rw now (fit-without hosts (set hosts b.receiver (received b (get_or hosts b.receiver None))) kept b.receiver
      (λ q ne. get_or-set_other hosts b.receiver q (received b (get_or hosts b.receiver None)) None ne) fit))

  -- what is left of them when no host changes
  pub fit-forgotten : (hosts : List (Option (Host V A))) (kept : List (Option (List Target))) (r : Option (Batch V A)) → TargetsFit P e ps hosts kept → TargetsFit P e ps hosts (forgotten r kept)
  fit-forgotten hosts kept None fit = fit
  fit-forgotten hosts kept (Some b) fit = by_test (is_of_targets (stage_of_body b.body))
      (λ later. rw later fit)
      (λ now. rw now (fit-without hosts hosts kept b.receiver (λ q ne. refl) fit))

  pub fit-delivered : (c : Cluster V A) (i : ℕ) (r : Option (Batch V A)) (kept : List (Option (List Target)))
      → TargetsFit P e ps c.hosts kept → TargetsFit P e ps (delivered c i r).0.hosts (forgotten r kept)
  unfolding delivered
  fit-delivered c i None kept fit = fit
  fit-delivered c i (Some b) kept fit = fit-received c.hosts kept b fit
