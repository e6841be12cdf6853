-- A run whose schedule has few crash lines is within its budget of losses.
use Rattle.std.proofs.Common.{◌≡◌, ◌<◌, ◌≤◌, ℕ, zero, suc, ◌+◌, List, [], ◌∷◌, Bool, true, false, cond, ◌&&◌, length, refl, sym, ap, ◌∙◌, subst, arith, Option, Some, None, if◌then◌else◌}
use Rattle.std.specs.Prelude.{count_by}
use Rattle.std.specs.List.{All}
use Rattle.std.proofs.lemmas.Bool.{and_from, and_parts, both_ways, le-leb, lt-ltb}
use Rattle.std.proofs.lemmas.List.FromFn.{length-range_with_len}
use Rattle.std.proofs.lemmas.List.Sums.{length-filter}
use Rattle.gr_base.specs.declared.records.Edge.{Edge}
use Rattle.gr_base.specs.Places.{IsPlaces, below}
use Rattle.gr_base.specs.Rising.{has}
use Rattle.gr_base.proofs.Ranges.{range-within}
use Rattle.gr_program.specs.Program.{Program}
use Rattle.gr_program.specs.ProgramLaws.{ProgramLaws}
use Rattle.gr_batch.specs.declared.outcome.Outcome.{Outcome}
use Rattle.gr_batch.specs.declared.outcome.Outcome.TheVariants as outcome
use Rattle.gr_sched.specs.declared.event.Event.{Event}
use Rattle.gr_sched.specs.declared.event.Event.TheVariants as event
use Rattle.gr_sched.specs.declared.event.Line.{Line}
use Rattle.gr_sched.specs.declared.event.Line.TheVariants as line
use Rattle.gr_view.specs.Modes.{is_rebuild}
use Rattle.gr_report.specs.Goes.{goes_with}
use Rattle.gr_cluster.specs.Tables.{Cluster, is_up}
use Rattle.gr_cluster.specs.Load.{Setting, load}
use Rattle.gr_cluster.specs.Step.{step}
use Rattle.gr_cluster.specs.Canonical.{next_canonical}
use Rattle.gr_cluster.specs.Runs.{Position, is_commit, event_of, lines_after, next_event, next_position, position_by}
use Rattle.gr_cluster.specs.Budget.{Losses, is_restored, no_losses, losses_after_step, are_borne, losses_by, losses_after, IsWithinBudget}
use Rattle.gr_agree.specs.Truth.{Truth}
use Rattle.gr_agree.specs.Accepted.{IsGraph, IsSetting, NamesPlaces}
use Rattle.gr_agree.specs.Agree.{Agree}
use Rattle.gr_agree.specs.Laws.{is_crash}
use Rattle.gr_lists.proofs.Counts.{count_by-cons}
use Rattle.gr_lists.proofs.Tests.{by_test}
use Rattle.gr_copies.proofs.Selecting.{members-below}
use Rattle.gr_law_rounds.proofs.Load.Load.{up-at, load-agrees}
use Rattle.gr_law_runs.proofs.Left.Canonical.{by-canonical}
use Rattle.gr_law_runs.proofs.Ends.Budget.{at_commit, one_more, losses-by, crash-serves, commit-serves}
use Rattle.gr_law_runs.proofs.Ends.Quiet.{quiet}
use Rattle.gr_law_runs.proofs.Ends.Runs.{AllName, NamesIfSome, StandsIn, next-names, next-stands, load-stands}
use Rattle.gr_law_runs.proofs.Ends.Serving.{count_by-more, most, most-is, serves, serving, serving-same, serving-less, serving-all}
use Rattle.gr_law_runs.proofs.Ends.Within.{load-live, load-losses}
use Rattle.gr_law_runs.specs.CrashLines.{is_crash_line, crash_lines}
use Rattle.gr_law_runs.proofs.Bounds.Outcomes.{step-goes}

-- ---- lines

-- the crash lines of a schedule are its first line's and those of the rest
lines-cons : (l : Line) (ls : List Line) → crash_lines (l ∷ ls) ≡ cond (is_crash_line l) 1 0 + crash_lines ls
lines-cons l ls = count_by-cons is_crash_line l ls

-- a crash comes of a crash line, which is gone after it
abbrev NoCrash : Option Event → Type 0
NoCrash o = (e : Event) → o ≡ Some e → is_crash_line (line.Step e) ≡ false

lines-used : (o : Option Event) → NoCrash o → (b : Bool) (ls : List Line) (e : Event) → event_of o ls ≡ Some e
    → crash_lines (lines_after o b ls) + cond (is_crash_line (line.Step e)) 1 0 ≤ crash_lines ls
lines-used o none b [] e is = absurd (cc)
lines-used o none b (line.Step d ∷ ls) e is =
    let same : d ≡ e = cc in let k = lines-cons (line.Step d) ls in
    let one : cond {A = ℕ} (is_crash_line (line.Step d)) 1 0 ≡ cond (is_crash_line (line.Step e)) 1 0 = ap (λ x. cond (is_crash_line (line.Step x)) 1 0) same in
    omega (arith, k, one)
lines-used None none b (line.Settle ∷ ls) e is = let ih = lines-used None none b ls e is in let k = lines-cons line.Settle ls in omega (arith, ih, k)
lines-used None none b (line.Finish ∷ ls) e is = let ih = lines-used None none b ls e is in let k = lines-cons line.Finish ls in omega (arith, ih, k)
lines-used (Some d) none true (line.Settle ∷ ls) e is =
    let calm : cond {A = ℕ} (is_crash_line (line.Step e)) 1 0 ≡ 0 = ap (λ k. cond k 1 0) (none e is) in let k = lines-cons line.Settle ls in omega (arith, calm, k)
lines-used (Some d) none false (line.Settle ∷ ls) e is =
    let calm : cond {A = ℕ} (is_crash_line (line.Step e)) 1 0 ≡ 0 = ap (λ k. cond k 1 0) (none e is) in omega (arith, calm)
lines-used (Some d) none b (line.Finish ∷ ls) e is =
    let calm : cond {A = ℕ} (is_crash_line (line.Step e)) 1 0 ≡ 0 = ap (λ k. cond k 1 0) (none e is) in omega (arith, calm)

-- only a crash line has the outcome of a crash
crash-goes : {V A : Type 0} (e : Event) (o : Outcome V A) → goes_with e o ≡ true → is_crash o ≡ true → is_crash_line (line.Step e) ≡ true
crash-goes (event.Crash p k) o g y = refl
crash-goes (event.Work p) (outcome.Crashed n) g y = g
crash-goes (event.Deliver i) (outcome.Crashed n) g y = g
crash-goes (event.Discarded i) (outcome.Crashed n) g y = g
crash-goes event.Barrier (outcome.Crashed n) g y = g
crash-goes (event.Recover ps) (outcome.Crashed n) g y = g
crash-goes event.Repair (outcome.Crashed n) g y = g
crash-goes event.Discard (outcome.Crashed n) g y = g
crash-goes e outcome.Idle g y = absurd (let bad : false ≡ true = y in cc)
crash-goes e (outcome.Installed n) g y = absurd (let bad : false ≡ true = y in cc)
crash-goes e (outcome.Adopted n) g y = absurd (let bad : false ≡ true = y in cc)
crash-goes e (outcome.Computed s) g y = absurd (let bad : false ≡ true = y in cc)
crash-goes e (outcome.Sent n s q) g y = absurd (let bad : false ≡ true = y in cc)
crash-goes e (outcome.Appended n) g y = absurd (let bad : false ≡ true = y in cc)
crash-goes e (outcome.Ready n) g y = absurd (let bad : false ≡ true = y in cc)
crash-goes e (outcome.Waiting s q) g y = absurd (let bad : false ≡ true = y in cc)
crash-goes e (outcome.Delivered b f) g y = absurd (let bad : false ≡ true = y in cc)
crash-goes e (outcome.Dropped n) g y = absurd (let bad : false ≡ true = y in cc)
crash-goes e (outcome.Failed ps) g y = absurd (let bad : false ≡ true = y in cc)
crash-goes e (outcome.Committed n r x) g y = absurd (let bad : false ≡ true = y in cc)
crash-goes e (outcome.NotReady p) g y = absurd (let bad : false ≡ true = y in cc)
crash-goes e (outcome.Opened n) g y = absurd (let bad : false ≡ true = y in cc)
crash-goes e (outcome.LostFound n) g y = absurd (let bad : false ≡ true = y in cc)
crash-goes e (outcome.Discarded n) g y = absurd (let bad : false ≡ true = y in cc)

-- no canonical event is a crash
canonical-calm : {V A : Type 0} (c : Cluster V A) → NoCrash (next_canonical c)
canonical-calm c e is = by-canonical c (λ e. is_crash_line (line.Step e) ≡ false) e is (record {
  deliver = λ b bs f. refl;
  work = λ none p h lt at acts. refl;
  recover = λ f seen. refl;
  barrier = λ Q B. refl;
})

-- ---- along a run

module _ {V A : Type 0} (P : Program V A) (L : ProgramLaws P) (places bound : ℕ) where
  -- the crash lines that are left, with the crashes since the last restored state, are borne; and they leave a place live and up
  record Bearable (c : Cluster V A) (left : ℕ) (l : Losses) : Type 0 where
    borne : l.crashes + left ≤ bound
    live : l.crashes + left < l.live
    standing : left < serving (below places) c

  -- fewer lines are left, and no place went
  bearable-fewer : (c d : Cluster V A) (left rest : ℕ) (l : Losses) → rest ≤ left → serving (below places) c ≤ serving (below places) d → Bearable c left l → Bearable d rest l
  bearable-fewer c d left rest l le stands B = let a = B.borne in let b = B.live in let k = B.standing in record {
    borne = omega (arith, a, le);
    live = omega (arith, b, le);
    standing = omega (arith, k, le, stands);
  }

  -- those that are live and up are live
  standing-live : (c : Cluster V A) → IsPlaces c.coordinator.live → serving (below places) c ≤ length c.coordinator.live
  standing-live c are =
      let more : serving (below places) c ≤ count_by (has c.coordinator.live) (below most) = count_by-more (λ p. has (below places) p && serves c p) (has c.coordinator.live)
      (λ p k. (and_parts (has c.coordinator.live p) (is_up c p) (and_parts (has (below places) p) (serves c p) k).1).0) (below most) in
      let all : count_by (has c.coordinator.live) (below most) ≡ length c.coordinator.live = sym (length-filter (has c.coordinator.live) (below most))
      ∙ ap length (members-below c.coordinator.live most are.rise (subst (λ n. All (λ p. p < n) c.coordinator.live) (sym most-is) are.below)) in
      omega (arith, more, all)

  module _ (t : Truth V) (c : Cluster V A) (AG : Agree P t c) (l : Losses) (e : Event) (names : NamesPlaces e) (left rest : ℕ) (used : rest + cond (is_crash_line (line.Step e)) 1 0 ≤ left) where
    abbrev d : Cluster V A
    d = (step P c e).0

    commit-bearable : IsPlaces d.coordinator.live → is_commit (step P c e).1 ≡ true → Bearable c left l → Bearable d rest (at_commit c d l)
    commit-bearable are y B =
        let stands = count_by-more (λ p. has (below places) p && serves c p) (λ p. has (below places) p && serves d p)
        (λ p k. let both = and_parts _ _ k in and_from _ _ both.0 (commit-serves bound P t c AG l e y p both.1)) (below most) in
        let same = bearable-fewer c d left rest l (omega (arith, used)) stands B in
        by_test (is_rebuild c.coordinator.mode && is_restored d)
        (λ r. subst (Bearable d rest) (sym (ap (λ b. if b then no_losses d else l) r)) (let a = B.borne in let k = same.standing in let live = standing-live d are in record {
          borne = omega (arith, a, used);
          live = omega (arith, k, live);
          standing = k;
        }))
        (λ n. subst (Bearable d rest) (sym (ap (λ b. if b then no_losses d else l) n)) same)

    quiet-bearable : ((p n : ℕ) → e ≡ event.Crash p n → is_crash (step P c e).1 ≡ false) → is_commit (step P c e).1 ≡ false → Bearable c left l → Bearable d rest l
    quiet-bearable none calm B =
        let same = serving-same (below places) c d (quiet P t c AG L e names none calm).serves in
        bearable-fewer c d left rest l (omega (arith, used)) (omega (arith, same)) B

  -- a crash is one of the lines
  crash-bearable : (t : Truth V) (c : Cluster V A) → Agree P t c → (l : Losses) (p n left rest : ℕ) → rest + 1 ≤ left → is_crash (step P c (event.Crash p n)).1 ≡ true
      → Bearable c left l → Bearable (step P c (event.Crash p n)).0 rest (one_more l)
  crash-bearable t c AG l p n left rest used y B =
      let less = serving-less (below places) c (step P c (event.Crash p n)).0 p (crash-serves bound P t c AG l p n y) in
      let a = B.borne in let b = B.live in let k = B.standing in record {
        borne = omega (arith, a, used);
        live = omega (arith, b, used);
        standing = omega (arith, k, used, less);
      }

  -- any event
  module _ (t : Truth V) (c : Cluster V A) (AG : Agree P t c) (l : Losses) where
    abbrev BearableAfter : Event → ℕ → Losses → Type 0
    BearableAfter e rest k = Bearable (step P c e).0 rest k

    uncrashed : {X : Type 0} (e : Event) → is_crash_line (line.Step e) ≡ false → is_crash (step P c e).1 ≡ true → X
    uncrashed e other y = absurd (both_ways _ other (crash-goes e (step P c e).1 (step-goes P c e) y))

    crash-any : (e : Event) (left rest : ℕ) → rest + cond (is_crash_line (line.Step e)) 1 0 ≤ left → is_crash (step P c e).1 ≡ true → Bearable c left l → BearableAfter e rest (one_more l)
    crash-any (event.Crash p n) left rest used y B = crash-bearable t c AG l p n left rest used y B
    crash-any (event.Work p) left rest used y B = uncrashed (event.Work p) refl y
    crash-any (event.Deliver i) left rest used y B = uncrashed (event.Deliver i) refl y
    crash-any (event.Discarded i) left rest used y B = uncrashed (event.Discarded i) refl y
    crash-any event.Barrier left rest used y B = uncrashed event.Barrier refl y
    crash-any (event.Recover ps) left rest used y B = uncrashed (event.Recover ps) refl y
    crash-any event.Repair left rest used y B = uncrashed event.Repair refl y
    crash-any event.Discard left rest used y B = uncrashed event.Discard refl y

    step-bearable : (e : Event) → NamesPlaces e → IsPlaces (step P c e).0.coordinator.live → (left rest : ℕ) → rest + cond (is_crash_line (line.Step e)) 1 0 ≤ left
        → Bearable c left l → BearableAfter e rest (losses_after_step c (step P c e).1 (step P c e).0 l)
    step-bearable e names are left rest used B =
        let d = (step P c e).0 in let o = (step P c e).1 in
        subst (BearableAfter e rest) (sym (losses-by c d l o)) (by_test (is_commit o)
        (λ y. subst (BearableAfter e rest) (sym (ap (λ b. if b then at_commit c d l else (if is_crash o then one_more l else l)) y)) (commit-bearable t c AG l e names left rest used are y B))
        (λ calm. subst (BearableAfter e rest) (sym (ap (λ b. if b then at_commit c d l else (if is_crash o then one_more l else l)) calm)) (by_test (is_crash o)
        (λ y. subst (BearableAfter e rest) (sym (ap (λ b. if b then one_more l else l) y)) (crash-any e left rest used y B))
        (λ none. subst (BearableAfter e rest) (sym (ap (λ b. if b then one_more l else l) none)) (quiet-bearable t c AG l e names left rest used (λ p n at. none) calm B)))))

  module _ (es : List Edge) (vs : List ℕ) where
    abbrev BearableAt : Position V A → Losses → Type 0
    BearableAt s l = Bearable s.cluster (crash_lines s.lines) l

    by-bearable : (s : Position V A) → StandsIn P L es vs s → (l : Losses) → (o : Option Event) → next_event s ≡ o → NamesIfSome o → StandsIn P L es vs (position_by P s o)
        → BearableAt s l → BearableAt (position_by P s o) (losses_by P s o l)
    unfolding next_event
    by-bearable s S l None is names S' B = B
    by-bearable s S l (Some e) is names S' B =
        let used = lines-used (next_canonical s.cluster) (canonical-calm s.cluster) (is_commit (step P s.cluster e).1) s.lines e is in
        step-bearable S.cluster.state s.cluster S.cluster.agrees l e (names e refl) S'.cluster.agrees.committed.shaped.live
        (crash_lines s.lines) (crash_lines (lines_after (next_canonical s.cluster) (is_commit (step P s.cluster e).1) s.lines)) used B

    next-bearable : (s : Position V A) → StandsIn P L es vs s → (l : Losses) → BearableAt s l → BearableAt (next_position P s) (losses_by P s (next_event s) l)
    unfolding next_position
    next-bearable s S l B = by-bearable s S l (next_event s) refl (next-names P L es vs s S) (next-stands P L es vs s S) B

    after-bearable : (n : ℕ) (s : Position V A) → StandsIn P L es vs s → (l : Losses) → BearableAt s l → are_borne bound (losses_after P n s l) ≡ true
    unfolding losses_after
    after-bearable zero s S l B = let a = B.borne in let b = B.live in and_from _ _ (le-leb l.crashes bound (omega (arith, a))) (lt-ltb l.crashes l.live (omega (arith, b)))
    after-bearable (suc n) s S l B = after-bearable n (next_position P s) (next-stands P L es vs s S) (losses_by P s (next_event s) l) (next-bearable s S l B)

-- ---- from load

module _ {V A : Type 0} (P : Program V A) (L : ProgramLaws P) (s : Setting) (es : List Edge) (vs : List ℕ) (ls : List Line) (IS : IsSetting s) (IG : IsGraph es vs) (names : AllName ls) where
  abbrev c : Cluster V A
  c = load P s es vs

  all-standing : serving (below s.places) c ≡ s.places
  all-standing =
      serving-all (below s.places) c places-below (λ p m.
      let lt = range-within 0 s.places p m in
      and_from (has c.coordinator.live p) (is_up c p) (ap (λ ps. has ps p) (load-live P s es vs IS IG) ∙ m) (up-at P s es vs IS IG p (omega (arith, lt))))
      ∙ length-range_with_len 0 s.places
    where
      places-below : IsPlaces (below s.places)
      places-below = subst IsPlaces (load-live P s es vs IS IG) (load-agrees P s es vs IS IG).committed.shaped.live

  pub few-borne : crash_lines ls ≤ s.losses → crash_lines ls < s.places → IsWithinBudget P (record { cluster = c; lines = ls })
  few-borne few fewer n =
      let stand = all-standing in
      let live : length c.coordinator.live ≡ s.places = ap length (load-live P s es vs IS IG) ∙ length-range_with_len 0 s.places in
      ap (λ k. are_borne k (losses_after P n (record { cluster = c; lines = ls }) (no_losses c))) (load-losses P s es vs IS IG)
      ∙ after-bearable P L s.places s.losses es vs n (record { cluster = c; lines = ls }) (load-stands P L s es vs IS IG ls names) (no_losses c) (record {
        borne = omega (arith, few);
        live = omega (arith, fewer, live);
        standing = omega (arith, fewer, stand);
      })
