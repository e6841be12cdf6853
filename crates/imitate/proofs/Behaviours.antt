-- What a call comes to: with words of no form, with an ending, and with a refusal.
use Rattle.std.proofs.Common.{◌≡◌, ◌≢◌, ◌≤◌, ◌⊎◌, ◌∙◌, ℕ, List, [], ◌∷◌, true, false, Option, Some, None, Result, Ok, Err, refl, sym, ap, subst, inl, inr, arith}
use Rattle.std.specs.Prelude.{IfSome, IsSomeAnd, IsTrue}
use Rattle.std.specs.Option.{option_map_or}
use Rattle.gr_base.specs.Rising.{has}
use Rattle.gr_outside.specs.Causes.{Rose}
use Rattle.gr_outside.specs.Files.{FilesSeen, FilesTold, KeepsOthers}
use Rattle.gr_outside.specs.Sink.{SinkSeen, Gains}
use Rattle.gr_play.specs.Tracing.{Traces, TracesPart}
use Rattle.imitate.specs.declared.ended.Ended.{Ended}
use Rattle.imitate.specs.declared.ended.Ended.TheVariants as ended
use Rattle.imitate.specs.declared.refusal.Refusal.{Refusal}
use Rattle.imitate.specs.declared.refusal.Refusal.TheVariants as refusal
use Rattle.imitate.specs.Words.{FileNames, Asked, nobody, names_in, asked_of}
use Rattle.imitate.specs.Refusals.{line_of, status_of}
use Rattle.imitate.specs.Reading.{Plan}
use Rattle.imitate.specs.Running.{end_status, run_trace, run_end}
use Rattle.imitate.specs.Contents.{KeepsFiles, KeepsAllBut, GainsPart}
use Rattle.imitate.specs.Outcome.{reply_to, plan_to, IsRun, IsRefused, PlaysFinish, Prints, TracesRun, TracesSome, Ends, LeavesEnd, LeavesFiles, Fails, Answers}
use Rattle.imitate.specs.Losses.{PrintsTheLost, PrintsTheRounds, BearsItsLosses, HasFewCrashes}
use Rattle.imitate.specs.Behaviour.{names_of, hindered, HasStatus, KeepsUntraced, FailsAt, IsAnswered, LeavesBehind}
use Rattle.imitate.proofs.Endings.{prints-lost, prints-rounds, never-lost, few-bear}
use Rattle.imitate.proofs.Quiet.{some-then, some-always, some-flat, keeps-nothing, kept-others, traces-others, part-others}
use Rattle.imitate.proofs.Runs.{run_end-met, finish-late}

-- words of no form: nothing is done, and the usage is said
pub usage-left : (files : FilesSeen) (out err err' : SinkSeen) (words : List (List ℕ)) (code : ℕ) → asked_of words ≡ None → (code ≡ 2) ⊎ (code ≡ 1)
    → GainsPart err err' (line_of nobody refusal.Usage) → (code ≢ 1 → Gains err err' (line_of nobody refusal.Usage) ⊎ Rose err.faults err'.faults)
    → LeavesBehind files files out out err err' words code
usage-left files out err err' words code none status part whole = record {
  explained = inr (
    refusal.Usage,
    record {
      status = status;
      fails = subst (λ (o : Option Asked). FailsAt files files out out o refusal.Usage) (sym none) (refl, refl, keeps-nothing files);
      part = part;
      whole = whole;
    },
  );
  untouched = λ _ _. (refl, keeps-nothing files);
  others = subst (KeepsUntraced files files) (sym none) (keeps-nothing files);
}

end-inj : (a b : Ended) → end_status a ≡ end_status b → a ≡ b
end-inj ended.Done ended.Done e = refl
end-inj ended.Done ended.Lost e = absurd (omega arith)
end-inj ended.Done ended.Early e = absurd (omega arith)
end-inj ended.Lost ended.Done e = absurd (omega arith)
end-inj ended.Lost ended.Lost e = refl
end-inj ended.Lost ended.Early e = absurd (omega arith)
end-inj ended.Early ended.Done e = absurd (omega arith)
end-inj ended.Early ended.Lost e = absurd (omega arith)
end-inj ended.Early ended.Early e = refl

-- the statuses of endings are those of no refusal
abbrev endings : List ℕ
endings = 0 ∷ 8 ∷ 9 ∷ []

end-ends : (e : Ended) → has endings (end_status e) ≡ true
end-ends ended.Done = refl
end-ends ended.Lost = refl
end-ends ended.Early = refl

refusal-ends : (why : Refusal) → has endings (status_of why) ≡ false
refusal-ends refusal.OutOfMemory = refl
refusal-ends refusal.Usage = refl
refusal-ends (refusal.Unreadable input) = refl
refusal-ends (refusal.TooLong input) = refl
refusal-ends (refusal.Graph fault) = refl
refusal-ends (refusal.Job fault) = refl
refusal-ends (refusal.Schedule fault) = refl
refusal-ends refusal.Trace = refl
refusal-ends refusal.Output = refl

-- a reading that is refused is refused for one cause
abbrev refused-so : {A : Type 0} → Refusal → Option (Result A Refusal)
refused-so why = Some (Err why)

refusal-same : {A : Type 0} (a b : Refusal) → refused-so {A = A} a ≡ refused-so b → a ≡ b
refusal-same {A} a b e = cc

module _ (words : List (List ℕ)) (asked : Asked) (given : asked_of words ≡ Some asked) where
  named-so : names_in asked ≡ names_of words
  named-so = sym (ap (λ (o : Option Asked). option_map_or names_in o nobody) given)

  if-asked : (P : Asked → Type 0) → P asked → IfSome (asked_of words) P
  if-asked P h = subst (λ (o : Option Asked). IfSome o P) (sym given) h

  module _ (files files' : FilesSeen) (out out' : SinkSeen) where
    -- an ending: it is the one that the files have
    module _ (end : Ended) (answers : Answers files files' out out' asked (Ok end)) (code : ℕ) (is : code ≡ end_status end) where
      run-finish : (names : FileNames) (t : FilesTold) → Ends files files' out out' names end t → PlaysFinish t (Asked.Run names) → code ≢ 9
      run-finish names t E plays nine =
          let plan : Plan = plays.0 in
          let accepted : Some (Ok E.plan) ≡ Some (Ok plan) = sym E.run.accepted ∙ plays.2 in
          let same : plan ≡ E.plan = cc in
          let early : end ≡ ended.Early = end-inj end ended.Early (sym is ∙ nine) in
          finish-late E.plan plays.1 (ap (λ (p : Plan). p.lines) (sym same) ∙ plays.3) E.steps E.run.whole (E.ended ∙ early)

      run-status : (names : FileNames) (t : FilesTold) → Ends files files' out out' names end t → HasStatus t code (Asked.Run names)
      run-status names t E = record {
        refused = λ why r. let bad : Some (Ok E.plan) ≡ Some (Err why) = sym E.run.accepted ∙ r in absurd (cc);
        ended = λ e other.
            let plan : Plan = other.0 in
            let steps : ℕ = other.1 in
            let run : IsRun t names plan steps = other.2 in
            let accepted : Some (Ok plan) ≡ Some (Ok E.plan) = sym run.accepted ∙ E.run.accepted in
            let same : plan ≡ E.plan = cc in
            let ends : run_end plan steps ≡ run_end E.plan E.steps = run_end-met plan E.plan same steps E.steps run.whole E.run.whole in
            is ∙ ap end_status (sym E.ended ∙ sym ends ∙ other.3);
      }

      plain-status : (names : FileNames) (t : FilesTold) → end ≡ ended.Done → (text : List ℕ) → reply_to t names ≡ Some (Ok text) → HasStatus t code (Asked.Plain names)
      plain-status names t done text shown = record {
        refused = λ why r. let bad : Some (Ok text) ≡ Some (Err why) = sym shown ∙ r in absurd (cc);
        ended = λ e other. is ∙ ap end_status (done ∙ sym other.0);
      }

      -- what it says of an ending that is not done
      if-lost : (a : Asked) → Answers files files' out out' a (Ok end) → end ≡ ended.Lost → IfSome files.told (PrintsTheLost out out' (names_in a))
      if-lost (Asked.Plain names) A lost = absurd (let bad : ended.Done ≡ ended.Lost = sym A.ends.0 ∙ lost in cc)
      if-lost (Asked.Run names) A lost =
          some-then files.told (Ends files files' out out' names end) (PrintsTheLost out out' names) A.ends (λ t E. prints-lost files files' out out' names t end E lost)
      if-lost (Asked.Load seed size) A lost = absurd (let bad : ended.Done ≡ ended.Lost = sym A.ends.0 ∙ lost in cc)

      if-early : (a : Asked) → Answers files files' out out' a (Ok end) → end ≡ ended.Early → IfSome files.told (PrintsTheRounds out out' (names_in a))
      if-early (Asked.Plain names) A early = absurd (let bad : ended.Done ≡ ended.Early = sym A.ends.0 ∙ early in cc)
      if-early (Asked.Run names) A early =
          some-then files.told (Ends files files' out out' names end) (PrintsTheRounds out out' names) A.ends (λ t E. prints-rounds files files' out out' names t end E early)
      if-early (Asked.Load seed size) A early = absurd (let bad : ended.Done ≡ ended.Early = sym A.ends.0 ∙ early in cc)

      if-borne : (a : Asked) → Answers files files' out out' a (Ok end) → IfSome files.told (λ t. BearsItsLosses t a → code ≢ 8)
      if-borne (Asked.Plain names) A = some-always files.told (λ t. ⊥ → code ≢ 8) (λ t no. absurd no)
      if-borne (Asked.Load seed size) A = some-always files.told (λ t. ⊥ → code ≢ 8) (λ t no. absurd no)
      if-borne (Asked.Run names) A =
          some-then files.told (Ends files files' out out' names end) (λ t. BearsItsLosses t (Asked.Run names) → code ≢ 8) A.ends
          (λ t E bears eight. never-lost files files' out out' names t end E bears (end-inj end ended.Lost (sym is ∙ eight)))

      if-few : (a : Asked) → Answers files files' out out' a (Ok end) → IfSome files.told (λ t. HasFewCrashes t a → code ≢ 8)
      if-few (Asked.Plain names) A = some-always files.told (λ t. ⊥ → code ≢ 8) (λ t no. absurd no)
      if-few (Asked.Load seed size) A = some-always files.told (λ t. ⊥ → code ≢ 8) (λ t no. absurd no)
      if-few (Asked.Run names) A =
          some-then files.told (Ends files files' out out' names end) (λ t. HasFewCrashes t (Asked.Run names) → code ≢ 8) A.ends
          (λ t E few eight. never-lost files files' out out' names t end E (few-bear files files' out out' names t end E few) (end-inj end ended.Lost (sym is ∙ eight)))

      if-finish : (a : Asked) → Answers files files' out out' a (Ok end) → IfSome files.told (λ t. PlaysFinish t a → code ≢ 9)
      if-finish (Asked.Plain names) A = some-always files.told (λ t. ⊥ → code ≢ 9) (λ t no. absurd no)
      if-finish (Asked.Load seed size) A = some-always files.told (λ t. ⊥ → code ≢ 9) (λ t no. absurd no)
      if-finish (Asked.Run names) A =
          some-then files.told (Ends files files' out out' names end) (λ t. PlaysFinish t (Asked.Run names) → code ≢ 9) A.ends (λ t E. run-finish names t E)

      if-status : (a : Asked) → Answers files files' out out' a (Ok end) → IfSome files.told (λ t. HasStatus t code a)
      if-status (Asked.Plain names) A =
          some-then files.told (λ t. (text : List ℕ) × (reply_to t names ≡ Some (Ok text)) × Gains out out' text) (λ t. HasStatus t code (Asked.Plain names)) (A.shown A.ends.0)
          (λ t s. plain-status names t A.ends.0 s.0 s.1)
      if-status (Asked.Run names) A =
          some-then files.told (Ends files files' out out' names end) (λ t. HasStatus t code (Asked.Run names)) A.ends (λ t E. run-status names t E)
      if-status (Asked.Load seed size) A = some-always files.told (λ t. HasStatus t code (Asked.Load seed size))
          (λ t. record { refused = λ why no. absurd no; ended = λ e other. is ∙ ap end_status (A.ends.0 ∙ sym other) })

      pub end-answered : (err : SinkSeen) → IsAnswered files files' out out' err err words code
      end-answered err = record {
        done = λ zero. if-asked (Prints files out out') (answers.shown (end-inj end ended.Done (sym is ∙ zero)));
        lost = λ eight. subst (λ (n : FileNames). IfSome files.told (PrintsTheLost out out' n)) named-so (if-lost asked answers (end-inj end ended.Lost (sym is ∙ eight)));
        early = λ nine. subst (λ (n : FileNames). IfSome files.told (PrintsTheRounds out out' n)) named-so (if-early asked answers (end-inj end ended.Early (sym is ∙ nine)));
        budget = if-asked (λ a. IfSome files.told (λ t. BearsItsLosses t a → code ≢ 8)) (if-borne asked answers);
        ended = λ e other. if-asked (λ a. LeavesEnd files files' out out' a e) (subst (LeavesEnd files files' out out' asked) (end-inj end e (sym is ∙ other)) answers.ends);
        quiet = λ e other. refl;
        few_crashes = if-asked (λ a. IfSome files.told (λ t. HasFewCrashes t a → code ≢ 8)) (if-few asked answers);
        finish = if-asked (λ a. IfSome files.told (λ t. PlaysFinish t a → code ≢ 9)) (if-finish asked answers);
        exact = inr (if-asked (λ a. IfSome files.told (λ t. HasStatus t code a)) (if-status asked answers));
      }

    -- a refusal: its status is that of no ending, and is the one of the files
    refused-status : (a : Asked) (why : Refusal) (t : FilesTold) → IsRefused t a why → (code : ℕ) → code ≡ status_of why → HasStatus t code a
    refused-status (Asked.Plain names) why t r code is = record {
      refused = λ other o. let same : Some (Err why) ≡ Some (Err other) = sym r ∙ o in is ∙ ap status_of (refusal-same why other same);
      ended = λ e o. let bad : Some (Ok o.1) ≡ Some (Err why) = sym o.2 ∙ r in absurd (cc);
    }
    refused-status (Asked.Run names) why t r code is = record {
      refused = λ other o. let same : Some (Err why) ≡ Some (Err other) = sym r ∙ o in is ∙ ap status_of (refusal-same why other same);
      ended = λ e o. let run : IsRun t names o.0 o.1 = o.2 in let bad : Some (Ok o.0) ≡ Some (Err why) = sym run.accepted ∙ r in absurd (cc);
    }
    refused-status (Asked.Load seed size) why t r code is = absurd r

    module _ (code : ℕ) where
      abbrev IsExact : Asked → Type 0
      IsExact a = IsTrue (has hindered code) ⊎ IfSome files.told (λ t. HasStatus t code a)

      is-hindered : (a : Asked) (n : ℕ) → has hindered n ≡ true → code ≡ n → IsExact a
      is-hindered a n h e = inl (ap (has hindered) e ∙ h)

      read-exact : (a : Asked) (why : Refusal) → IfSome files.told (λ t. IsRefused t a why) → code ≡ status_of why → IsExact a
      read-exact a why h e = inr (some-then files.told (λ t. IsRefused t a why) (λ t. HasStatus t code a) h (λ t r. refused-status a why t r code e))

      status-exact : (a : Asked) (why : Refusal) → Fails files files' out out' a why → code ≡ status_of why → IsExact a
      status-exact a refusal.OutOfMemory F e = is-hindered a 1 refl e
      status-exact a refusal.Usage F e = absurd F.cause
      status-exact a (refusal.Unreadable input) F e = is-hindered a 3 refl e
      status-exact a (refusal.TooLong input) F e = is-hindered a 4 refl e
      status-exact a refusal.Trace F e = is-hindered a 10 refl e
      status-exact a refusal.Output F e = is-hindered a 11 refl e
      status-exact (Asked.Plain names) (refusal.Graph fault) F e = read-exact (Asked.Plain names) (refusal.Graph fault) F.cause e
      status-exact (Asked.Plain names) (refusal.Job fault) F e = read-exact (Asked.Plain names) (refusal.Job fault) F.cause e
      status-exact (Asked.Plain names) (refusal.Schedule fault) F e = read-exact (Asked.Plain names) (refusal.Schedule fault) F.cause e
      status-exact (Asked.Run names) (refusal.Graph fault) F e = read-exact (Asked.Run names) (refusal.Graph fault) F.cause e
      status-exact (Asked.Run names) (refusal.Job fault) F e = read-exact (Asked.Run names) (refusal.Job fault) F.cause e
      status-exact (Asked.Run names) (refusal.Schedule fault) F e = read-exact (Asked.Run names) (refusal.Schedule fault) F.cause e
      status-exact (Asked.Load seed size) (refusal.Graph fault) F e = absurd F.cause
      status-exact (Asked.Load seed size) (refusal.Job fault) F e = absurd F.cause
      status-exact (Asked.Load seed size) (refusal.Schedule fault) F e = absurd F.cause

      no-ending : (why : Refusal) → (code ≡ status_of why) ⊎ (code ≡ 1) → (n : ℕ) → has endings n ≡ true → code ≢ n
      no-ending why s n m e =
          let is : has endings code ≡ true = ap (has endings) e ∙ m in
          elim s [
            | inl r ↦ let bad : false ≡ true = sym (refusal-ends why) ∙ (sym (ap (has endings) r) ∙ is) in cc
            | inr one ↦ let bad : false ≡ true = sym (ap (has endings) one) ∙ is in cc
          ]

      pub refusal-answered : (err err' : SinkSeen) (why : Refusal) → Fails files files' out out' asked why → (code ≡ status_of why) ⊎ (code ≡ 1)
          → IsAnswered files files' out out' err err' words code
      refusal-answered err err' why F s = record {
        done = λ z. absurd (no-ending why s 0 refl z);
        lost = λ z. absurd (no-ending why s 8 refl z);
        early = λ z. absurd (no-ending why s 9 refl z);
        ended = λ e z. absurd (no-ending why s (end_status e) (end-ends e) z);
        quiet = λ e z. absurd (no-ending why s (end_status e) (end-ends e) z);
        budget = if-asked (λ a. IfSome files.told (λ t. BearsItsLosses t a → code ≢ 8)) (some-always files.told (λ t. BearsItsLosses t asked → code ≢ 8) (λ t b. no-ending why s 8 refl));
        few_crashes = if-asked (λ a. IfSome files.told (λ t. HasFewCrashes t a → code ≢ 8)) (some-always files.told (λ t. HasFewCrashes t asked → code ≢ 8) (λ t b. no-ending why s 8 refl));
        finish = if-asked (λ a. IfSome files.told (λ t. PlaysFinish t a → code ≢ 9)) (some-always files.told (λ t. PlaysFinish t asked → code ≢ 9) (λ t b. no-ending why s 9 refl));
        exact = elim (exactly why F s) [ inl h ↦ inl h | inr h ↦ inr (if-asked (λ a. IfSome files.told (λ t. HasStatus t code a)) h) ];
      }
        where
          exactly : (why : Refusal) → Fails files files' out out' asked why → (code ≡ status_of why) ⊎ (code ≡ 1) → IsExact asked
          exactly why F s = elim s [ inl e ↦ status-exact asked why F e | inr one ↦ is-hindered asked 1 refl one ]

    -- a refusal: what it leaves of the files, and the output
    module _ (code : ℕ) where
      fails-untouched : (a : Asked) (why : Refusal) → Fails files files' out out' a why → (code ≡ status_of why) ⊎ (code ≡ 1) → 2 ≤ code → code ≤ 7 → (out' ≡ out) × KeepsFiles files files'
      fails-untouched a refusal.OutOfMemory F status low high = absurd (omega arith)
      fails-untouched a refusal.Usage F status low high = absurd F.cause
      fails-untouched a refusal.Trace F status low high = absurd (omega arith)
      fails-untouched a refusal.Output F status low high = absurd (omega arith)
      fails-untouched (Asked.Plain names) other F status low high = (F.output, F.left)
      fails-untouched (Asked.Run names) other F status low high = (F.output, F.left)
      fails-untouched (Asked.Load seed size) other F status low high = (F.output, F.left)

    some-others : (names : FileNames) → TracesSome files files' names → KeepsAllBut names.trace files files'
    some-others names h = some-flat files.told (λ t. (plan : Plan) × (steps : ℕ) × (plan_to t names ≡ Some (Ok plan)) × TracesPart files files' names.trace (run_trace plan steps))
        (λ t. IsSomeAnd files'.told (λ u. KeepsOthers names.trace t.files u.files)) h
        (λ t s. part-others files files' names.trace (run_trace s.0 s.1) s.3)

    run-others : (names : FileNames) → TracesRun files files' names → KeepsAllBut names.trace files files'
    run-others names h = some-flat files.told (λ t. (plan : Plan) × (steps : ℕ) × IsRun t names plan steps × Traces files files' names.trace (run_trace plan steps))
        (λ t. IsSomeAnd files'.told (λ u. KeepsOthers names.trace t.files u.files)) h
        (λ t s. traces-others files files' names.trace (run_trace s.0 s.1) s.3)

    left-others : (a : Asked) (why : Refusal) → LeavesFiles files files' out out' a why → KeepsUntraced files files' (Some a)
    left-others (Asked.Plain names) why h = h
    left-others (Asked.Load seed size) why h = h
    left-others (Asked.Run names) refusal.OutOfMemory h = elim h [ inl kept ↦ kept-others files files' names.trace kept | inr s ↦ some-others names s ]
    left-others (Asked.Run names) refusal.Trace h = some-others names h
    left-others (Asked.Run names) refusal.Output h = run-others names h
    left-others (Asked.Run names) other h = kept-others files files' names.trace h

    pub refusal-left : (err err' : SinkSeen) (code : ℕ) (why : Refusal) → Fails files files' out out' asked why → (code ≡ status_of why) ⊎ (code ≡ 1) → GainsPart err err' (line_of (names_in asked) why)
        → (code ≢ 1 → Gains err err' (line_of (names_in asked) why) ⊎ Rose err.faults err'.faults) → LeavesBehind files files' out out' err err' words code
    refusal-left err err' code why F status part whole = record {
      explained = inr (
        why,
        record {
          status = status;
          fails = subst (λ (o : Option Asked). FailsAt files files' out out' o why) (sym given) F;
          part = subst (λ (n : FileNames). GainsPart err err' (line_of n why)) named-so part;
          whole = λ other. subst (λ (n : FileNames). Gains err err' (line_of n why) ⊎ Rose err.faults err'.faults) named-so (whole other);
        },
      );
      untouched = λ low high. fails-untouched code asked why F status low high;
      others = subst (KeepsUntraced files files') (sym given) (left-others asked why F.left);
    }
