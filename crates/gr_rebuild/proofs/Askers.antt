-- The asks that a place was sent are those of the places that asked it.
use Rattle.std.proofs.Common.{◌≡◌, ◌<◌, ℕ, List, [], ◌∷◌, Bool, ◌==◌, ◌&&◌, flat_map, sym, ap, ◌∙◌}
use Rattle.std.specs.List.{All, AllByRecursion as Each, list_any}
use Rattle.std.proofs.lemmas.List.Elements.{All-from_recursion, recursion_from_All}
use Rattle.gr_base.specs.Rising.{has}
use Rattle.gr_base.specs.Places.{IsPlaces}
use Rattle.gr_base.proofs.Rising.{filter-rises}
use Rattle.gr_batch.specs.declared.batch.Batch.{Batch}
use Rattle.gr_batch.specs.declared.body.Body.{Body}
use Rattle.gr_batch.specs.declared.stage.Stage.TheVariants as stage
use Rattle.gr_batch.specs.Bodies.{asks_of}
use Rattle.gr_rules.specs.Inbox.{bodies}
use Rattle.gr_migrate.specs.declared.grant.AskFrom.{AskFrom}
use Rattle.gr_migrate.specs.Askers.{asks_for, AreAskers}
use Rattle.gr_lists.proofs.Each.{Each-always, Each-weaker}
use Rattle.gr_lists.proofs.Any.{has-filter, list_any-agree, list_any-and, list_any-flat_map}
use Rattle.gr_lists.proofs.Maps.{Each-map}
use Rattle.gr_rebuild.specs.Asked.{asks_from, asks_in, asked_for}
use Rattle.gr_rebuild.proofs.Lists.{any-map, Each-flat_map, any-at}
use Rattle.gr_rebuild.proofs.Senders.{gathered, gathered-all}

module _ {V A : Type 0} (inbox : List (Batch V A)) (e : ℕ) (others : List ℕ) where
  -- what q asks for, and whether it asks for a vertex
  abbrev sent : ℕ → List (Body V A)
  sent q = bodies inbox e stage.Ask (q ∷ [])

  abbrev asks : ℕ → ℕ → Bool
  asks v q = list_any (λ b. has (asks_of b) v) (sent q)

  asks-one : (v q r : ℕ) → list_any (λ a. (a.vertex == v) && (a.asker == q)) (asks_from inbox e r) ≡ (asks v r && (r == q))
  asks-one v q r =
      any-map (λ (a : AskFrom). (a.vertex == v) && (a.asker == q)) (λ u. record { vertex = u; asker = r }) (flat_map asks_of (sent r))
      ∙ (list_any-and (λ u. u == v) (r == q) (flat_map asks_of (sent r))
      ∙ ap (λ b. b && (r == q)) (list_any-flat_map (λ u. u == v) asks_of (sent r)))

  asks-sent : (v q : ℕ) → asks_for (asks_in inbox e others) v q ≡ (has others q && asks v q)
  unfolding asks_in
  asks-sent v q = list_any-flat_map (λ (a : AskFrom). (a.vertex == v) && (a.asker == q)) (asks_from inbox e) others
      ∙ (list_any-agree _ _ others (Each-always (λ r. list_any (λ a. (a.vertex == v) && (a.asker == q)) (asks_from inbox e r) ≡ (asks v r && (r == q))) (asks-one v q) others)
      ∙ any-at (asks v) q others)

  pub are-askers : IsPlaces others → AreAskers (asks_in inbox e others) (asked_for inbox e others)
  are-askers places = record {
    rise = λ v. filter-rises (λ q. q) (asks v) others places.rise;
    members = λ v q. has-filter (asks v) others q ∙ sym (asks-sent v q);
  }

  pub few-askers : IsPlaces others → All (λ a. a.asker < 64) (asks_in inbox e others)
  unfolding asks_in
  few-askers places = All-from_recursion (λ (a : AskFrom). a.asker < 64) (flat_map (asks_from inbox e) others)
      (Each-flat_map (λ (a : AskFrom). a.asker < 64) (asks_from inbox e) others
      (Each-weaker (λ q. q < 64) (λ q. Each (λ (a : AskFrom). a.asker < 64) (asks_from inbox e q)) (λ q lt.
      Each-map (λ (a : AskFrom). a.asker < 64) (λ u. record { vertex = u; asker = q }) (flat_map asks_of (sent q)) (Each-always (λ u. q < 64) (λ u. lt) (flat_map asks_of (sent q))))
      others (recursion_from_All (λ q. q < 64) others places.below)))

  pub asks-gathered : IsPlaces others → gathered (asks_from inbox e) others 64 ≡ asks_in inbox e others
  unfolding asks_in
  asks-gathered places = gathered-all (asks_from inbox e) others places.below
