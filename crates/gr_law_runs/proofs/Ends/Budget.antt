-- Along a run the holders of a vertex that are live and up, with the crashes since the last restored state, are as many as the copies are to be.
use Rattle.std.proofs.Common.{◌≡◌, ◌≤◌, ℕ, ◌+◌, List, [], ◌∷◌, Bool, true, false, not, ◌==◌, ◌&&◌, map, length, min, refl, sym, ap, ◌∙◌, subst, arith, Option, Some, None, if◌then◌else◌}
use Rattle.std.specs.Prelude.{nat_le}
use Rattle.std.specs.List.{list_all, AllByRecursion as Each}
use Rattle.std.proofs.lemmas.Bool.{and_from, and_left, and_parts, leb-true, or_left}
use Rattle.gr_base.specs.Places.{below}
use Rattle.gr_base.specs.Rising.{has}
use Rattle.gr_base.proofs.Union.{has-union}
use Rattle.gr_program.specs.Program.{Program}
use Rattle.gr_program.specs.ProgramLaws.{ProgramLaws}
use Rattle.gr_log.specs.Directory.{Entry}
use Rattle.gr_log.specs.Log.{committed_log}
use Rattle.gr_batch.specs.declared.outcome.Outcome.{Outcome}
use Rattle.gr_batch.specs.declared.outcome.Outcome.TheVariants as outcome
use Rattle.gr_sched.specs.declared.event.Event.{Event}
use Rattle.gr_sched.specs.declared.event.Event.TheVariants as event
use Rattle.gr_view.specs.Modes.{is_over, is_rebuild}
use Rattle.gr_view.specs.Decisions.{parties, rebuild_committed, round_committed}
use Rattle.gr_cluster.specs.Tables.{Host, Cluster, changed_at, host, is_up, view_of, wanted_in}
use Rattle.gr_cluster.specs.Directory.{directory_of}
use Rattle.gr_cluster.specs.Network.{crashed}
use Rattle.gr_cluster.specs.Step.{with_coordinator, step}
use Rattle.gr_cluster.specs.Runs.{is_commit}
use Rattle.gr_cluster.specs.Budget.{Losses, is_restored, no_losses, losses_after_step}
use Rattle.gr_agree.specs.Truth.{Truth, held, true_entry}
use Rattle.gr_agree.specs.Rebuilt.{rebuilt}
use Rattle.gr_agree.specs.Agree.{Agree}
use Rattle.gr_agree.specs.Accepted.{NamesPlaces}
use Rattle.gr_agree.specs.Laws.{is_crash}
use Rattle.gr_lists.proofs.Each.{Each-both, Each-has, Each-weaker}
use Rattle.gr_lists.proofs.Maps.{Each-map}
use Rattle.gr_lists.proofs.Tests.{by_test}
use Rattle.gr_law_rounds.proofs.Commit.Verdicts.{committing, all-up}
use Rattle.gr_law_rebuilds.proofs.Epoch.Places.{live-not_dead}
use Rattle.gr_law_rebuilds.proofs.Loss.Loss.{loss-kept}
use Rattle.gr_law_rebuilds.proofs.Restore.Commit.{rebuild-commits}
use Rattle.gr_law_rebuilds.proofs.Restore.Holders.{holder-stays}
use Rattle.gr_law_rebuilds.proofs.Restore.Ready.{fits-here, new-holder_party}
use Rattle.gr_law_runs.proofs.Ends.Directory.{directory-is}
use Rattle.gr_law_runs.proofs.Left.Same.{losses-step}
use Rattle.gr_law_runs.proofs.Ends.Quiet.{Quiet, quiet}
use Rattle.gr_law_runs.proofs.Ends.Serving.{count_by-more, most, serves, serving, serving-same, serving-less, serving-all}

-- ---- lists

Each-of_map : {X Y : Type 0} (Q : Y → Type 0) (f : X → Y) (xs : List X) → Each Q (map f xs) → Each (λ x. Q (f x)) xs
Each-of_map Q f [] h = tt
Each-of_map Q f (x ∷ xs) h = (h.0, Each-of_map Q f xs h.1)

Each-of_all : {X : Type 0} (f : X → Bool) (xs : List X) → list_all f xs ≡ true → Each (λ x. f x ≡ true) xs
Each-of_all f [] h = tt
Each-of_all f (x ∷ xs) h = let k = and_parts (f x) (list_all f xs) h in (k.0, Each-of_all f xs k.1)

-- ---- the count of losses by an outcome

abbrev pub one_more : Losses → Losses
one_more l = record { crashes = l.crashes + 1; live = l.live }

module _ {V A : Type 0} (c d : Cluster V A) (l : Losses) where
  abbrev pub at_commit : Losses
  at_commit = if is_rebuild c.coordinator.mode && is_restored d then no_losses d else l

  pub losses-by : (o : Outcome V A) → losses_after_step c o d l ≡ (if is_commit o then at_commit else (if is_crash o then one_more l else l))
  losses-by outcome.Idle = refl
  losses-by _ = refl

-- a vertex has one holder more than the losses that the job bears, or as many as there were live places, where those count that crashed since
module _ {V A : Type 0} (bound : ℕ) where
  abbrev pub IsBorne : Losses → Cluster V A → Entry → Type 0
  IsBorne l c e = min (bound + 1) l.live ≤ l.crashes + serving e.holders c

  abbrev pub Bears : Losses → Cluster V A → Type 0
  Bears l c = Each (IsBorne l c) (directory_of c)

  module _ (P : Program V A) (t : Truth V) (c : Cluster V A) (AG : Agree P t c) (l : Losses) where
    -- ---- events that neither commit nor crash a place

    quiet-bears : (d : Cluster V A) → Quiet P t c AG d → Bears l c → Bears l d
    quiet-bears d Q B =
        subst (Each (IsBorne l d)) (directory-is P t c AG ∙ sym (directory-is P t d Q.agrees))
        (Each-weaker (IsBorne l c) (IsBorne l d) (λ e k. let same = serving-same e.holders c d Q.serves in omega (arith, same, k)) (directory_of c) B)

    -- ---- crashes

    crashed-live : (p n : ℕ) (o : Option (Host V A)) → (crashed c p n o).0.coordinator.live ≡ c.coordinator.live
    unfolding crashed
    crashed-live p n None = refl
    crashed-live p n (Some h) = refl

    crash-live : (p n : ℕ) → (step P c (event.Crash p n)).0.coordinator.live ≡ c.coordinator.live
    unfolding step
    crash-live p n = by_test (is_over c.coordinator.mode) (λ o. rw o refl) (λ o. rw o (crashed-live p n (host c p)))

    -- a crash takes its own place away, and no other
    pub crash-serves : (p n : ℕ) → is_crash (step P c (event.Crash p n)).1 ≡ true → (q : ℕ) → serves (step P c (event.Crash p n)).0 q ≡ (serves c q && not (q == p))
    crash-serves p n y q =
        let K = loss-kept P t c p n AG y in (λ i. has (crash-live p n i) q && K.0 q i) ∙ grouped (has c.coordinator.live q) (is_up c q) (not (q == p))
      where
        grouped : (a b k : Bool) → (a && (b && k)) ≡ ((a && b) && k)
        grouped true b k = refl
        grouped false b k = refl

    crash-bears : (p n : ℕ) → is_crash (step P c (event.Crash p n)).1 ≡ true → Bears l c → Bears (one_more l) (step P c (event.Crash p n)).0
    crash-bears p n y B =
        let d = (step P c (event.Crash p n)).0 in
        let K = loss-kept P t c p n AG y in
        let gone = crash-serves p n y in
        subst (Each (IsBorne (one_more l) d)) (directory-is P t c AG ∙ sym (directory-is P t d K.1))
        (Each-weaker (IsBorne l c) (IsBorne (one_more l) d) (λ e k. let less = serving-less e.holders c d p gone in omega (arith, less, k)) (directory_of c) B)

    -- ---- commits

    module _ (e : Event) (commits : is_commit (step P c e).1 ≡ true) where
      abbrev d : Cluster V A
      d = (step P c e).0

      abbrev committed_logs : Cluster V A
      committed_logs = record c { logs = changed_at (parties c.coordinator) (λ _. committed_log) c.logs }

      round-same : Bears l c → Bears l (with_coordinator (round_committed c.coordinator) c)
      unfolding directory_of
      round-same B = B

      after-round : is_rebuild c.coordinator.mode ≡ false → with_coordinator (round_committed c.coordinator) c ≡ d
      after-round other =
          sym ((committing P c e commits).2 ∙ (λ i. with_coordinator (if other i then rebuild_committed c.coordinator else round_committed c.coordinator) (if other i then committed_logs else c)))

      -- the commit of a round changes neither the logs nor which places are live and up
      round-bears : is_rebuild c.coordinator.mode ≡ false → Bears l c → Bears l d
      round-bears other B = subst (Bears l) (after-round other) (round-same B)

      module _ (rebuilding : is_rebuild c.coordinator.mode ≡ true) where
        abbrev t' : Truth V
        t' = rebuilt P (view_of P c) (wanted_in P c) t

        agrees' : Agree P t' d
        agrees' = rebuild-commits P t c e AG commits rebuilding

        became : d ≡ with_coordinator (rebuild_committed c.coordinator) committed_logs
        became = (committing P c e commits).2
            ∙ (λ i. with_coordinator (if rebuilding i then rebuild_committed c.coordinator else round_committed c.coordinator) (if rebuilding i then committed_logs else c))

        -- the parties are live, and all are up
        party-serves : (q : ℕ) → has (parties c.coordinator) q ≡ true → serves d q ≡ true
        party-serves q m = ap (λ x. serves x q) became
            ∙ and_from (has (parties c.coordinator) q) (is_up c q) m (all-up P c e commits q m)

        -- every new holder is live and up
        holder-serves : (v : ℕ) → has t.vertices v ≡ true → (q : ℕ) → held t' q v ≡ true → serves d q ≡ true
        holder-serves v there q h = party-serves q (new-holder_party P t c AG rebuilding v there q h)

        holders-serve : Each (λ x. serving x.holders d ≡ length x.holders) (directory_of d)
        holders-serve = subst (Each (λ x. serving x.holders d ≡ length x.holders)) (sym (directory-is P t' d agrees'))
            (Each-map (λ x. serving x.holders d ≡ length x.holders) (true_entry t') t.vertices
            (Each-has _ t.vertices (λ v there. serving-all (t'.holders v) d (agrees'.committed.sound.holders v there) (holder-serves v there))))

        -- where it restores, the count starts anew
        restored-bears : d.losses ≡ bound → is_restored d ≡ true → Bears (no_losses d) d
        unfolding is_restored
        restored-bears same y = Each-both
            (λ x. nat_le (min (d.losses + 1) (length d.coordinator.live)) (length x.holders) ≡ true) (λ x. serving x.holders d ≡ length x.holders) (IsBorne (no_losses d) d)
            (λ x enough all. let le = leb-true (min (d.losses + 1) (length d.coordinator.live)) (length x.holders) enough in omega (arith, same, le, all))
            (directory_of d) (Each-of_all _ (directory_of d) y) holders-serve

        -- no holder that is live and up is given up
        holders-stay : (v : ℕ) → has t.vertices v ≡ true → serving (t.holders v) c ≤ serving (t'.holders v) d
        holders-stay v there = count_by-more (λ p. held t p v && serves c p) (λ p. held t' p v && serves d p) (λ p k.
            let both = and_parts (held t p v) (serves c p) k in
            let live = (and_parts (has c.coordinator.live p) (is_up c p) both.1).0 in
            let dead = live-not_dead c.coordinator c.places p (AG.committed.places.one_set p) live in
            and_from (held t' p v) (serves d p)
            (holder-stays P (view_of P c) (wanted_in P c) t (fits-here P t c AG rebuilding) v there p (and_left (has c.coordinator.dead p) (not (has c.coordinator.reborn p)) dead) both.0)
            (party-serves p (has-union p c.coordinator.live c.coordinator.reborn ∙ or_left _ _ live)))
            (below most)

        kept-bears : Bears l c → Bears l d
        kept-bears B = subst (Each (IsBorne l d)) (sym (directory-is P t' d agrees'))
            (Each-map (IsBorne l d) (true_entry t') t.vertices (Each-both
            (λ v. IsBorne l c (true_entry t v)) (λ v. serving (t.holders v) c ≤ serving (t'.holders v) d) (λ v. IsBorne l d (true_entry t' v))
            (λ v k more. omega (arith, k, more)) t.vertices
            (Each-of_map (IsBorne l c) (true_entry t) t.vertices (subst (Each (IsBorne l c)) (directory-is P t c AG) B))
            (Each-has _ t.vertices holders-stay)))

      -- a place that is live and up stays so
      pub commit-serves : (p : ℕ) → serves c p ≡ true → serves d p ≡ true
      commit-serves p s = by_test (is_rebuild c.coordinator.mode)
          (λ r. let live = (and_parts (has c.coordinator.live p) (is_up c p) s).0 in
          party-serves r p (has-union p c.coordinator.live c.coordinator.reborn ∙ or_left _ _ live))
          (λ other. subst (λ x. serves x p ≡ true) (after-round other) s)

      commit-bears : d.losses ≡ bound → Bears l c → Bears (at_commit c d l) d
      commit-bears same B = by_test (is_rebuild c.coordinator.mode)
          (λ r. by_test (is_restored d)
          (λ y. subst (λ k. Bears k d) (sym (λ i. if r i && y i then no_losses d else l)) (restored-bears r same y))
          (λ n. subst (λ k. Bears k d) (sym (λ i. if r i && n i then no_losses d else l)) (kept-bears r B)))
          (λ other. subst (λ k. Bears k d) (sym (λ i. if other i && is_restored d then no_losses d else l)) (round-bears other B))

    -- ---- every event

    -- a crash more is borne where nothing else has changed
    more-bears : (d : Cluster V A) → Bears l d → Bears (one_more l) d
    more-bears d B = Each-weaker (IsBorne l d) (IsBorne (one_more l) d) (λ x k. omega (arith, k)) (directory_of d) B

    module _ (L : ProgramLaws P) where
      other-bears : (e : Event) → NamesPlaces e → ((p n : ℕ) → e ≡ event.Crash p n → is_crash (step P c e).1 ≡ false) → is_commit (step P c e).1 ≡ false → Bears l c → Bears l (step P c e).0
      other-bears e names none calm B = quiet-bears (step P c e).0 (quiet P t c AG L e names none calm) B

      -- only a crash gives the outcome of one, but that need not be known
      crash-any : (e : Event) → NamesPlaces e → is_crash (step P c e).1 ≡ true → is_commit (step P c e).1 ≡ false → Bears l c → Bears (one_more l) (step P c e).0
      crash-any (event.Crash p n) names y calm B = crash-bears p n y B
      crash-any (event.Work p) names y calm B = more-bears _ (other-bears (event.Work p) names (λ q n same. absurd (cc)) calm B)
      crash-any (event.Deliver i) names y calm B = more-bears _ (other-bears (event.Deliver i) names (λ q n same. absurd (cc)) calm B)
      crash-any (event.Discarded i) names y calm B = more-bears _ (other-bears (event.Discarded i) names (λ q n same. absurd (cc)) calm B)
      crash-any event.Barrier names y calm B = more-bears _ (other-bears event.Barrier names (λ q n same. absurd (cc)) calm B)
      crash-any (event.Recover ps) names y calm B = more-bears _ (other-bears (event.Recover ps) names (λ q n same. absurd (cc)) calm B)
      crash-any event.Repair names y calm B = more-bears _ (other-bears event.Repair names (λ q n same. absurd (cc)) calm B)
      crash-any event.Discard names y calm B = more-bears _ (other-bears event.Discard names (λ q n same. absurd (cc)) calm B)

      pub step-bears : c.losses ≡ bound → (e : Event) → NamesPlaces e → Bears l c → Bears (losses_after_step c (step P c e).1 (step P c e).0 l) (step P c e).0
      step-bears same e names B =
          let d = (step P c e).0 in let o = (step P c e).1 in
          subst (λ k. Bears k d) (sym (losses-by c d l o)) (by_test (is_commit o)
          (λ y. subst (λ k. Bears k d) (sym (ap (λ b. if b then at_commit c d l else (if is_crash o then one_more l else l)) y)) (commit-bears e y (losses-step P c e ∙ same) B))
          (λ calm. subst (λ k. Bears k d) (sym (ap (λ b. if b then at_commit c d l else (if is_crash o then one_more l else l)) calm)) (by_test (is_crash o)
          (λ y. subst (λ k. Bears k d) (sym (ap (λ b. if b then one_more l else l) y)) (crash-any e names y calm B))
          (λ none. subst (λ k. Bears k d) (sym (ap (λ b. if b then one_more l else l) none)) (other-bears e names (λ p n at. none) calm B)))))
