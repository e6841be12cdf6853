-- What the bodies meet that a place was sent in a rebuild, and the copies that are granted to it.
use Rattle.std.proofs.Common.{◌≡◌, ℕ, List, [], ◌∷◌, ◌++◌, true, map, flat_map, find, sym, subst, Option, Some, None, if◌then◌else◌}
use Rattle.std.specs.Prelude.{IfSome}
use Rattle.std.specs.List.{All, AllByRecursion as Each}
use Rattle.std.proofs.lemmas.List.Elements.{All-from_recursion}
use Rattle.gr_program.specs.declared.copy.VertexCopy.{VertexCopy}
use Rattle.gr_program.specs.Program.{Program}
use Rattle.gr_copies.specs.declared.view.RebuildView.{RebuildView}
use Rattle.gr_batch.specs.declared.batch.Batch.{Batch}
use Rattle.gr_batch.specs.declared.body.Body.{Body}
use Rattle.gr_batch.specs.declared.stage.Stage.{Stage}
use Rattle.gr_batch.specs.declared.stage.Stage.TheVariants as stage
use Rattle.gr_batch.specs.Stages.{code_of}
use Rattle.gr_batch.specs.Bodies.{stage_of_body, is_of, grants_of}
use Rattle.gr_rules.specs.Inbox.{bodies}
use Rattle.gr_rules.specs.Grants.{granted_copy, is_granted_to, grant_body}
use Rattle.gr_rebuild.proofs.Lists.{Each-flat_map}
use Rattle.gr_cluster.specs.Tables.{Host, Cluster, host, inbox_of, view_of, wanted_in}
use Rattle.gr_cluster.specs.Todo.{others}
use Rattle.gr_cluster.specs.Place.{asked_for, granted_to, granted}
use Rattle.gr_agree.specs.Truth.{Truth}
use Rattle.gr_agree.specs.TrueBody.{TrueBody}
use Rattle.gr_agree.specs.Network.{BatchHolds}
use Rattle.gr_agree.specs.Agree.{Agree}
use Rattle.gr_lists.proofs.Each.{Each-append, Each-weaker}
use Rattle.gr_lists.proofs.Chosen.{if-some, Each-find, Each-filter_map}
use Rattle.gr_law_rounds.proofs.Round.Codes.{said-of}
use Rattle.gr_law_rounds.proofs.Round.Brought.{true-there}
use Rattle.gr_law_rebuilds.proofs.Rebuild.Once.{put-all}
use Rattle.gr_law_work.specs.InRebuild.{HasId}
use Rattle.gr_law_work.proofs.Relies.Rows.{grants-ids}

module _ {V A : Type 0} (P : Program V A) (t : Truth V) (c : Cluster V A) (AG : Agree P t c) (p : ℕ) (h : Host V A) (at : host c p ≡ Some h) (now : h.epoch ≡ c.coordinator.epoch) where
  abbrev w : RebuildView
  w = view_of P c

  abbrev want : ℕ
  want = wanted_in P c

  abbrev IsGood : Batch V A → Type 0
  IsGood b = BatchHolds P w want t c.coordinator b × (b.receiver ≡ p)

  inbox-good : Each IsGood h.inbox
  inbox-good = subst (λ o. Each IsGood (inbox_of o)) at (AG.open_work.network.in_inbox p)

  -- what every true body of a stage meets, each meets that is there
  Each-now : (Q : Body V A → Type 0) (s : Stage) → ((q : ℕ) (b : Body V A) → TrueBody P w want t q p b → code_of s ≡ code_of (stage_of_body b) → Q b) → (qs : List ℕ) → Each Q (bodies h.inbox c.coordinator.epoch s qs)
  unfolding bodies
  Each-now Q s is [] = tt
  Each-now Q s is (q ∷ qs) = Each-append Q _ _ (here q (find (is_of q c.coordinator.epoch s) h.inbox) (Each-find IsGood (is_of q c.coordinator.epoch s) h.inbox inbox-good)) (Each-now Q s is qs)
    where
      here : (q : ℕ) (o : Option (Batch V A)) → IfSome o (λ b. (is_of q c.coordinator.epoch s b ≡ true) × IsGood b)
          → Each Q (map (λ (b : Batch V A). b.body) (elim o [ None ↦ [] | Some b ↦ b ∷ [] ]))
      here q None k = tt
      here q (Some b) k = let true_body = true-there P w want t c.coordinator p h.inbox inbox-good q s b k.0 k.1 in (is q b.body true_body.0 true_body.1, tt)

  pub Each-bodies : (Q : Body V A → Type 0) (s : Stage) → ((q : ℕ) (b : Body V A) → TrueBody P w want t q p b → code_of s ≡ code_of (stage_of_body b) → Q b) → (qs : List ℕ) → Each Q (bodies h.inbox h.epoch s qs)
  Each-bodies Q s is qs = subst (λ e. Each Q (bodies h.inbox e s qs)) (sym now) (Each-now Q s is qs)

  -- the copies that others granted to it
  sent-ids : (qs : List ℕ) → Each HasId (flat_map grants_of (bodies h.inbox h.epoch stage.Grant qs))
  sent-ids qs = Each-flat_map HasId grants_of (bodies h.inbox h.epoch stage.Grant qs) (Each-bodies (λ b. Each HasId (grants_of b)) stage.Grant (λ q b is code.
      subst (Each HasId) (sym (said-of P w want t q p stage.Grant b is code)) (grants-ids P t AG.committed.sound w want q p)) qs)

  -- and those that it grants
  abbrev own-copy : ℕ → VertexCopy V → Option (VertexCopy V)
  own-copy q k = if is_granted_to w want p q k (asked_for P c p h k.vertex) then Some (granted_copy w want k (asked_for P c p h k.vertex) q) else None

  own-ids : Each HasId h.stable → (q : ℕ) → Each HasId (granted_to P c p h q)
  unfolding grant_body
  own-ids ids q = Each-filter_map (own-copy q) HasId h.stable (Each-weaker HasId (λ k. IfSome (own-copy q k) HasId)
      (λ k id. if-some HasId (is_granted_to w want p q k (asked_for P c p h k.vertex)) (granted_copy w want k (asked_for P c p h k.vertex) q) (λ _. id)) h.stable ids)

  pub granted-ids : Each HasId h.stable → All HasId (granted P c p h)
  granted-ids ids = All-from_recursion HasId (granted P c p h) (put-all (λ (r : VertexCopy V). r.vertex) HasId
      (flat_map grants_of (bodies h.inbox h.epoch stage.Grant (others c.coordinator p)) ++ granted_to P c p h p) []
      (Each-append HasId (flat_map grants_of (bodies h.inbox h.epoch stage.Grant (others c.coordinator p))) (granted_to P c p h p) (sent-ids (others c.coordinator p)) (own-ids ids p)) tt)
