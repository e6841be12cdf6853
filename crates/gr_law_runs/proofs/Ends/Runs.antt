-- Along every run from load a cluster stays in its graph.
use Rattle.std.proofs.Common.{◌≡◌, ◌<◌, ℕ, zero, suc, List, [], ◌∷◌, not, ◌&&◌, refl, ◌∙◌, subst, arith, Option, Some, None, take}
use Rattle.std.specs.List.{find, AllByRecursion as Each}
use Rattle.std.proofs.lemmas.List.{length-take, get_or-take}
use Rattle.std.proofs.lemmas.List.Elements.{All-take}
use Rattle.gr_base.specs.declared.records.Edge.{Edge}
use Rattle.gr_base.specs.Places.{IsPlaces, below}
use Rattle.gr_program.specs.Program.{Program}
use Rattle.gr_program.specs.ProgramLaws.{ProgramLaws}
use Rattle.gr_batch.specs.declared.batch.Batch.{Batch}
use Rattle.gr_sched.specs.declared.event.Event.{Event}
use Rattle.gr_sched.specs.declared.event.Line.{Line}
use Rattle.gr_view.specs.Modes.{is_over, is_failed}
use Rattle.gr_cluster.specs.Tables.{Cluster, host}
use Rattle.gr_cluster.specs.Todo.{can_work}
use Rattle.gr_cluster.specs.Load.{Setting, load}
use Rattle.gr_cluster.specs.GraphIn.{graph_of}
use Rattle.gr_cluster.specs.Step.{step}
use Rattle.gr_cluster.specs.Canonical.{is_crash_unseen, canonical_decision, canonical_work, canonical_among, next_canonical}
use Rattle.gr_cluster.specs.Runs.{Position, is_commit, next_event, next_position, position_by, position_after}
use Rattle.gr_agree.specs.Accepted.{IsGraph, IsSetting, NamesPlaces, NamesPlacesAt}
use Rattle.gr_agree.specs.FirstTruth.{first_truth}
use Rattle.gr_lists.proofs.Tests.{by_test}
use Rattle.gr_law_rounds.proofs.Load.Load.{load-agrees, same-edges}
use Rattle.gr_law_rounds.proofs.Logs.Logged.{graph-in}
use Rattle.gr_law_runs.specs.Events.{AgreesIn}
use Rattle.gr_law_runs.proofs.Runs.Lines.{event-meets, lines-meet}
use Rattle.gr_law_runs.proofs.Events.Limit.{limit-step}
use Rattle.gr_law_runs.specs.Ends.{StaysInItsGraph}
use Rattle.gr_law_runs.proofs.Ends.Events.{agrees-after}

-- the first places of a set are a set
IsPlaces-take : (n : ℕ) (ps : List ℕ) → IsPlaces ps → IsPlaces (take n ps)
IsPlaces-take n ps are = record {
  rise = λ i j d h l. let len = length-take n ps in let r = are.rise i j d h (omega (arith, len, l)) in
      rw (get_or-take n ps i d (omega (arith, len, l, h)), get_or-take n ps j d (omega (arith, len, l))) r;
  below = All-take (λ p. p < 64) n ps are.below;
}

module _ {V A : Type 0} (c : Cluster V A) (dead : IsPlaces c.coordinator.dead) where
  decision-names : NamesPlaces (canonical_decision c)
  decision-names = by_test (is_failed c.coordinator.mode && not (is_crash_unseen c))
      (λ k. rw k (IsPlaces-take c.coordinator.spares c.coordinator.dead dead))
      (λ k. rw k tt)

  work-names : (o : Option ℕ) → NamesPlaces (canonical_work c o)
  work-names (Some p) = tt
  work-names None = decision-names

  among-names : (bs : List (Batch V A)) → NamesPlaces (canonical_among c bs)
  among-names (b ∷ bs) = tt
  among-names [] = work-names (find (λ p. can_work c.coordinator p (host c p)) (below c.places))

  -- the places that a canonical event names are a set
  pub canonical-names : (e : Event) → next_canonical c ≡ Some e → NamesPlaces e
  unfolding next_canonical
  canonical-names e is = by_test (is_over c.coordinator.mode)
      (λ o. absurd (let is' : None ≡ Some e = rw o at is in cc))
      (λ o. let is' : Some (canonical_among c c.flight) ≡ Some e = rw o at is in
      let same : canonical_among c c.flight ≡ e = cc in subst NamesPlaces same (among-names c.flight))

abbrev pub AllName : List Line → Type 0
AllName ls = Each NamesPlacesAt ls

abbrev pub NamesIfSome : Option Event → Type 0
NamesIfSome o = (e : Event) → o ≡ Some e → NamesPlaces e

module _ {V A : Type 0} (P : Program V A) (L : ProgramLaws P) (es : List Edge) (vs : List ℕ) where
  -- where a run stands: its cluster agrees with a committed state of the graph, and the lines that are left name sets of places
  pub record StandsIn (s : Position V A) : Type 0 where
    pub cluster : AgreesIn P es vs s.cluster
    pub lines : AllName s.lines

  event-stands : (c : Cluster V A) (e : Event) → NamesPlaces e → AgreesIn P es vs c → AgreesIn P es vs (step P c e).0
  event-stands c e names K =
      let k = agrees-after P L K.state c K.agrees e names in
      record { state = k.state; agrees = k.agrees; edges = k.edges ∙ K.edges; vertices = k.vertices ∙ K.vertices }

  by-stands : (s : Position V A) → StandsIn s → (o : Option Event) → NamesIfSome o → StandsIn (position_by P s o)
  by-stands s S None h = S
  by-stands s S (Some e) h = record {
    cluster = event-stands s.cluster e (h e refl) S.cluster;
    lines = lines-meet NamesPlacesAt (next_canonical s.cluster) (is_commit (step P s.cluster e).1) s.lines S.lines;
  }

  -- the event that comes next names a set of places
  pub next-names : (s : Position V A) → StandsIn s → NamesIfSome (next_event s)
  unfolding next_event
  next-names s S = event-meets NamesPlaces NamesPlacesAt (λ e names. names) (next_canonical s.cluster) (canonical-names s.cluster S.cluster.agrees.committed.shaped.dead) s.lines S.lines

  pub next-stands : (s : Position V A) → StandsIn s → StandsIn (next_position P s)
  unfolding next_position
  next-stands s S = by-stands s S (next_event s) (next-names s S)

  pub after-stands : (n : ℕ) (s : Position V A) → StandsIn s → StandsIn (position_after P n s)
  unfolding position_after
  after-stands zero s S = S
  after-stands (suc n) s S = after-stands n (next_position P s) (next-stands s S)

module _ {V A : Type 0} (P : Program V A) where
  by-limit : (s : Position V A) (o : Option Event) → (position_by P s o).cluster.coordinator.limit ≡ s.cluster.coordinator.limit
  by-limit s None = refl
  by-limit s (Some e) = limit-step P s.cluster e

  -- no step changes the limit of rounds
  pub after-limit : (n : ℕ) (s : Position V A) → (position_after P n s).cluster.coordinator.limit ≡ s.cluster.coordinator.limit
  unfolding position_after next_position
  after-limit zero s = refl
  after-limit (suc n) s = after-limit n (next_position P s) ∙ by-limit s (next_event s)

module _ {V A : Type 0} (P : Program V A) (L : ProgramLaws P) (s : Setting) (es : List Edge) (vs : List ℕ) (IS : IsSetting s) (IG : IsGraph es vs) (ls : List Line) (names : AllName ls) where
  abbrev pub start : Position V A
  start = record { cluster = load P s es vs; lines = ls }

  pub load-stands : StandsIn P L es vs start
  load-stands = record {
    cluster = record { state = first_truth P s es vs; agrees = load-agrees P s es vs IS IG; edges = same-edges P s es vs IS IG; vertices = refl };
    lines = names;
  }

  limit-at-load : (load P s es vs).coordinator.limit ≡ s.limit
  unfolding load
  limit-at-load = refl

  pub run-stays : (n : ℕ) → StaysInItsGraph P es vs s.limit (position_after P n start).cluster
  run-stays n =
      let K = (after-stands P L es vs n start load-stands).cluster in record {
        agrees = K;
        logs = graph-in P K.state (position_after P n start).cluster K.agrees ∙ (λ i. graph_of (K.edges i) (K.vertices i));
        limit = after-limit P n start ∙ limit-at-load;
      }
