-- What a party of a rebuild sends, stages and appends, once it has what it needs.
use Rattle.std.proofs.Common.{◌≡◌, ℕ, List, [], ◌∷◌, ◌++◌, true, false, not, ◌==◌, ◌&&◌, flat_map, refl, sym, ap, ◌∙◌, subst, ⊎_elim, Some, eqb-true, eq-eqb}
use Rattle.std.specs.Prelude.{is_none}
use Rattle.std.specs.List.{AllByRecursion as Each, list_any}
use Rattle.std.proofs.Math.Bool.{and-true, or-false}
use Rattle.std.proofs.lemmas.Bool.{and_left, both_ways, or_left, or_right}
use Rattle.std.proofs.lemmas.List.Folds.{list_any-append}
use Rattle.gr_base.specs.Rising.{has}
use Rattle.gr_program.specs.Program.{Program}
use Rattle.gr_copies.specs.declared.view.RebuildView.{RebuildView}
use Rattle.gr_log.specs.Directory.{with_items}
use Rattle.gr_batch.specs.declared.stage.Stage.{Stage}
use Rattle.gr_batch.specs.declared.stage.Stage.TheVariants as stage
use Rattle.gr_batch.specs.Stages.{code_of, is_end}
use Rattle.gr_batch.specs.Bodies.{is_of, stage_of_body, asks_of, grants_of}
use Rattle.gr_view.specs.Modes.{is_rebuild}
use Rattle.gr_view.specs.Decisions.{parties}
use Rattle.gr_rules.specs.Rows.{row}
use Rattle.gr_rules.specs.Inbox.{bodies}
use Rattle.gr_rules.specs.Taken.{is_granter, ask_body}
use Rattle.gr_rules.specs.Grants.{grant_body, records_after}
use Rattle.gr_cluster.specs.Tables.{Host, Cluster, host, inbox_of, view_of, wanted_in}
use Rattle.gr_cluster.specs.Todo.{others}
use Rattle.gr_cluster.specs.Place.{asked_for, granted_to, granted, taken, body_to, new_records}
use Rattle.gr_agree.specs.Truth.{Truth, held, true_entry}
use Rattle.gr_agree.specs.TrueBody.{TrueBody}
use Rattle.gr_agree.specs.Rebuilt.{is_asker, true_askers, true_asks, true_grants, true_granted, true_taken, true_records, stable_at}
use Rattle.gr_agree.specs.Hosts.{HasNeeded}
use Rattle.gr_agree.specs.Network.{BatchHolds}
use Rattle.gr_agree.specs.Agree.{Agree}
use Rattle.gr_lists.proofs.Tests.{by_test, by_same}
use Rattle.gr_lists.proofs.Each.{Each-has}
use Rattle.gr_lists.proofs.Any.{has-filter, list_any-flat_map}
use Rattle.gr_law_rounds.proofs.Network.Kept.{up-party}
use Rattle.gr_law_rounds.proofs.Round.Brought.{brought-lists}
use Rattle.gr_law_rounds.proofs.Round.Codes.{said-of}
use Rattle.gr_law_rounds.proofs.Round.InEpoch.{other-party}
use Rattle.gr_law_rebuilds.proofs.Rebuild.Selecting.{filter-agree, filter-both}
use Rattle.gr_law_rebuilds.proofs.Rebuild.Granters.{granter-holds}
use Rattle.gr_law_rebuilds.proofs.Rebuild.Taken.{taken_edges-true}
use Rattle.gr_law_rebuilds.proofs.Rebuild.Asks.{ask-body-true}
use Rattle.gr_law_rebuilds.proofs.Rebuild.Grants.{grant-body-true, grant-body-none}
use Rattle.gr_law_rebuilds.proofs.Rebuild.Granted.{granted-true}
use Rattle.gr_law_rebuilds.proofs.Rebuild.Parties.{some-alive, within, said-retiring, granter-party, party-cases, stable-live, stable-lacks}
use Rattle.gr_law_rebuilds.proofs.Rebuild.Stages.{IsRebuildStage, by_sent_stage}

module _ {V A : Type 0} (P : Program V A) (t : Truth V) (c : Cluster V A) (AG : Agree P t c) (rebuilding : is_rebuild c.coordinator.mode ≡ true)
    (p : ℕ) (h : Host V A) (at : host c p ≡ Some h) (now : h.epoch ≡ c.coordinator.epoch) (stable : h.stable ≡ stable_at P (view_of P c) (wanted_in P c) t p) where
  abbrev w : RebuildView
  w = view_of P c

  abbrev want : ℕ
  want = wanted_in P c

  abbrev rest : List ℕ
  rest = others c.coordinator p

  abbrev Has : Stage → Type 0
  Has s = HasNeeded rest h.epoch h.inbox (Some s)

  party : has (parties c.coordinator) p ≡ true
  party = up-party P t c AG p h at

  inbox-good : Each (λ b. BatchHolds P w want t c.coordinator b × (b.receiver ≡ p)) h.inbox
  inbox-good = subst (λ o. Each (λ b. BatchHolds P w want t c.coordinator b × (b.receiver ≡ p)) (inbox_of o)) at (AG.open_work.network.in_inbox p)

  there : (s : Stage) → Has s → (q : ℕ) → has rest q ≡ true → list_any (is_of q c.coordinator.epoch s) h.inbox ≡ true
  there s f q m = subst (λ n. list_any (is_of q n s) h.inbox ≡ true) now (f q m)

  -- ---- the bodies

  pub ask-here : (q : ℕ) → ask_body w c.logs p h.stable q ≡ true_asks w t p q
  ask-here q = ask-body-true P t AG.committed.sound w c.logs AG.committed.logs.theta (within P t c AG rebuilding) (said-retiring P t c AG rebuilding) p h.stable
      (λ v m. ap (λ l. is_none (row l v)) stable ∙ stable-lacks P t c AG rebuilding p v m) q

  -- whether another party asked for a vertex
  asked-by : Has stage.Ask → (v q : ℕ) → has rest q ≡ true → list_any (λ b. has (asks_of b) v) (bodies h.inbox h.epoch stage.Ask (q ∷ [])) ≡ has (true_asks w t q p) v
  asked-by f v q m =
      (λ i. list_any (λ b. has (asks_of b) v) (bodies h.inbox (now i) stage.Ask (q ∷ [])))
      ∙ (sym (list_any-flat_map (λ x. x == v) asks_of (bodies h.inbox c.coordinator.epoch stage.Ask (q ∷ [])))
      ∙ (ap (λ l. has l v) (brought-lists P w want t c.coordinator p h.inbox inbox-good asks_of (λ r. true_asks w t r p) stage.Ask (λ r. said-of P w want t r p stage.Ask) (q ∷ []) (there stage.Ask f q m, tt))
      ∙ (list_any-append (λ x. x == v) (true_asks w t q p) [] ∙ or-false (has (true_asks w t q p) v))))

  has-asks : (v q : ℕ) → has t.vertices v ≡ true → is_granter w (true_entry t v) p ≡ true → has (true_asks w t q p) v ≡ is_asker w t v q
  unfolding true_asks
  has-asks v q m g = has-filter (λ u. is_asker w t u q && is_granter w (true_entry t u) p) t.vertices v ∙ (ap (λ b. b && (is_asker w t v q && is_granter w (true_entry t v) p)) m ∙ (ap (λ b. is_asker w t v q && b) g ∙ and-true (is_asker w t v q)))

  -- nobody asks for what it holds
  holder-asks_not : (v : ℕ) → held t p v ≡ true → is_asker w t v p ≡ false
  unfolding is_asker
  holder-asks_not v k = and_left _ _ (ap not k)

  -- those who asked it for a vertex that it grants are all who ask for it
  pub asked-here : Has stage.Ask → (v : ℕ) → has t.vertices v ≡ true → is_granter w (true_entry t v) p ≡ true → asked_for P c p h v ≡ true_askers w t v
  asked-here f v m g =
      let holds = granter-holds w (true_entry t v) p (AG.committed.sound.master_holds v m) g in
      filter-both (λ q. list_any (λ b. has (asks_of b) v) (bodies h.inbox h.epoch stage.Ask (q ∷ []))) (λ q. not (q == p)) (parties c.coordinator)
      ∙ filter-agree _ (is_asker w t v) (parties c.coordinator) (Each-has _ (parties c.coordinator) (λ q y. by_test (q == p)
      (λ e. let none : is_asker w t v q ≡ false = ap (is_asker w t v) (eqb-true q p e) ∙ holder-asks_not v holds in rw (e, none) refl)
      (λ e. let other = other-party (parties c.coordinator) p q y (λ x. both_ways _ e (eq-eqb q p (sym x))) in
      rw (e, asked-by f v q other) (has-asks v q m g))))

  -- the copies that it grants to q
  pub grant-here : Has stage.Ask → (q : ℕ) → granted_to P c p h q ≡ true_grants P w want t p q
  grant-here f q = by_test (has c.coordinator.dead p)
      (λ d. grant-body-none P t AG.committed.sound w want refl p q (asked_for P c p h) d h.stable)
      (λ alive. ⊎_elim
      (λ l. ap (λ rows. grant_body w want p (asked_for P c p h) rows q) (stable ∙ stable-live P t c AG rebuilding p l) ∙ grant-body-true P t AG.committed.sound w want refl p q (asked_for P c p h) (asked-here f))
      (λ r. absurd (both_ways _ alive (AG.committed.places.reborn_dead p r)))
      (party-cases P t c AG rebuilding p party))

  -- all copies that are granted to it
  pub granted-here : Has stage.Ask → Has stage.Grant → granted P c p h ≡ true_granted P w want t p
  granted-here f g =
      (λ i. with_items (λ r. r.vertex) (flat_map grants_of (bodies h.inbox (now i) stage.Grant rest) ++ grant-here f p i) [])
      ∙ (ap (λ l. with_items (λ r. r.vertex) (l ++ true_grants P w want t p p) [])
      (brought-lists P w want t c.coordinator p h.inbox inbox-good grants_of (λ r. true_grants P w want t r p) stage.Grant (λ r. said-of P w want t r p stage.Grant) rest (Each-has _ rest (there stage.Grant g)))
      ∙ granted-true P t AG.committed.sound w want p rest (λ v q m k. by_same q p
      (λ e. list_any-append (λ x. x == q) rest (p ∷ []) ∙ or_right (has rest q) _ (or_left _ _ (eq-eqb p q (sym e))))
      (λ ne. list_any-append (λ x. x == q) rest (p ∷ []) ∙ or_left _ _ (other-party (parties c.coordinator) p q (granter-party P t c AG rebuilding v q m k) (λ x. ne (sym x)))))
      (some-alive P t c AG rebuilding))

  pub taken-here : taken P c p h ≡ true_taken w t p
  taken-here = taken_edges-true P t AG.committed.sound w c.logs AG.committed.logs.theta (within P t c AG rebuilding) (said-retiring P t c AG rebuilding) p

  -- what it appends to its log
  pub records-here : Has stage.Ask → Has stage.Grant → new_records P c p h ≡ true_records P w want t p
  records-here f g = λ i. records_after (granted-here f g i) (taken-here i)

  -- the body of a stage to q
  pub body-here : (s : Stage) → IsRebuildStage s → is_end s ≡ false → (s ≡ stage.Grant → Has stage.Ask) → (q : ℕ) → TrueBody P w want t p q (body_to P c p h q s)
  body-here s r e f q = by_sent_stage (λ s. (s ≡ stage.Grant → Has stage.Ask) → TrueBody P w want t p q (body_to P c p h q s))
      (λ f. ask-here q)
      (λ f. grant-here (f refl) q)
      s r e f

  pub body-code : (s : Stage) → IsRebuildStage s → is_end s ≡ false → (q : ℕ) → code_of (stage_of_body (body_to P c p h q s)) ≡ code_of s
  body-code s r e q = by_sent_stage (λ s. code_of (stage_of_body (body_to P c p h q s)) ≡ code_of s) refl refl s r e
