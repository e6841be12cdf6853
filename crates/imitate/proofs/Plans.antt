-- A run over files that tell their content: what it comes to, by what was read and how it was played.
use Rattle.std.proofs.Common.{◌≡◌, ◌⊎◌, ◌∙◌, ℕ, List, Some, Ok, Err, refl, ap, subst, inl, inr}
use Rattle.std.specs.Prelude.{IfSome, is_some}
use Rattle.gr_outside.specs.Files.{FilesSeen}
use Rattle.gr_outside.specs.Sink.{SinkSeen, Gains}
use Rattle.gr_play.specs.Tracing.{TracesPart}
use Rattle.imitate.specs.declared.ended.Ended.{Ended}
use Rattle.imitate.specs.declared.ended.Ended.TheVariants as ended
use Rattle.imitate.specs.declared.refusal.Refusal.{Refusal}
use Rattle.imitate.specs.declared.refusal.Refusal.TheVariants as refusal
use Rattle.imitate.specs.Words.{FileNames, Asked}
use Rattle.imitate.specs.Reading.{Plan, plan_of, reply_of}
use Rattle.imitate.specs.Running.{program_in, begin, run_trace}
use Rattle.imitate.specs.Contents.{KeepsFiles, GainsPart}
use Rattle.imitate.specs.Loading.{IsQuiet}
use Rattle.imitate.specs.Playing.{IsPlayed, IsUnplayed}
use Rattle.imitate.specs.Outcome.{reply_to, plan_to, IsText, Shows, ShowsPart, TracesSome, Ends, Fails}
use Rattle.imitate.proofs.Quiet.{some-then, quiet-kept, quiet-write, quiet-traces, quiet-part, traces-part}
use Rattle.imitate.proofs.Endings.{shows-result}
use Rattle.imitate.proofs.Outcomes.{reply-of_reading, plan-of_reading, refused-fails}

module _ (files files' : FilesSeen) (out : SinkSeen) (names : FileNames) (kept : KeepsFiles files files') where
  pub reply-fails : (graph job : List ℕ) → IfSome files.told (λ t. reply_to t names ≡ Some (reply_of graph job)) → (why : Refusal) → (why ≡ refusal.OutOfMemory) ⊎ (reply_of graph job ≡ Err why)
      → Fails files files' out out (Asked.Plain names) why
  reply-fails graph job told why is = refused-fails files files' out kept (Asked.Plain names) why (elim is [
    | inl e ↦ inl e
    | inr e ↦ inr (reply-of_reading graph job why e, some-then files.told (λ t. reply_to t names ≡ Some (reply_of graph job)) (λ t. reply_to t names ≡ Some (Err why)) told (λ t h. h ∙ ap Some e))
  ])

  pub plan-fails : (graph job schedule : List ℕ) → IfSome files.told (λ t. plan_to t names ≡ Some (plan_of graph job schedule)) → (why : Refusal)
      → (why ≡ refusal.OutOfMemory) ⊎ (plan_of graph job schedule ≡ Err why) → Fails files files' out out (Asked.Run names) why
  plan-fails graph job schedule told why is = refused-fails files files' out kept (Asked.Run names) why (elim is [
    | inl e ↦ inl e
    | inr e ↦ inr (
      plan-of_reading graph job schedule why e,
      some-then files.told (λ t. plan_to t names ≡ Some (plan_of graph job schedule)) (λ t. plan_to t names ≡ Some (Err why)) told (λ t h. h ∙ ap Some e),
    )
  ])

-- files before the loads, after them, and after the run; a plan that was read
module _ (a b d : FilesSeen) (Q : IsQuiet a b) (names : FileNames) (plan : Plan) (accepted : IfSome a.told (λ t. plan_to t names ≡ Some (Ok plan))) where
  some-traced : (steps : ℕ) → TracesPart b d names.trace (run_trace plan steps) → TracesSome a d names
  some-traced steps part = some-then a.told (λ t. plan_to t names ≡ Some (Ok plan))
      (λ t. (p : Plan) × (n : ℕ) × (plan_to t names ≡ Some (Ok p)) × TracesPart a d names.trace (run_trace p n)) accepted
      (λ t is. (plan, steps, is, quiet-part a b Q d names.trace (run_trace plan steps) part))

  pub unplayed-fails : (out : SinkSeen) (why : Refusal) → IsUnplayed b d names.trace (program_in plan) (begin plan) why → Fails a d out out (Asked.Run names) why
  unplayed-fails out refusal.OutOfMemory h = record {
    cause = tt;
    output = inl refl;
    left = elim h [ inl kept ↦ inl (quiet-kept a b Q d kept) | inr p ↦ inr (some-traced p.0 p.1) ];
  }
  unplayed-fails out refusal.Trace h = record { cause = quiet-write a b Q d h.0; output = refl; left = some-traced h.1.0 h.1.1 }
  unplayed-fails out other h = absurd h

  module _ (end : Ended) (text : List ℕ) (played : IsPlayed b d names.trace (program_in plan) (begin plan) end text) (out out' : SinkSeen) where
    pub played-ends : Gains out out' text → IfSome a.told (Ends a d out out' names end)
    played-ends gains = some-then a.told (λ t. plan_to t names ≡ Some (Ok plan)) (Ends a d out out' names end) accepted (λ t is. record {
      plan = plan;
      steps = played.steps;
      run = record { accepted = is; whole = played.whole };
      ended = played.ended;
      printed = subst (Gains out out') played.told gains;
      traced = quiet-traces a b Q d names.trace (run_trace plan played.steps) played.traced;
    })

    pub played-shown : Gains out out' text → end ≡ ended.Done → Shows a out out' names
    played-shown gains done = some-then a.told (Ends a d out out' names end) (λ t. (x : List ℕ) × (reply_to t names ≡ Some (Ok x)) × Gains out out' x) (played-ends gains)
        (λ t E. shows-result a d out out' names t end E done)

    part-shown : GainsPart out out' text → ShowsPart a out out' (Asked.Run names)
    part-shown part = some-then a.told (λ t. plan_to t names ≡ Some (Ok plan)) (λ t. (x : List ℕ) × IsText t (Asked.Run names) x × GainsPart out out' x) accepted
        (λ t is. (text, (plan, played.steps, record { accepted = is; whole = played.whole }, played.told), part))

    pub memory-fails : GainsPart out out' text → IfSome d.told (λ u. is_some u.begun ≡ d.is_begun) → Fails a d out out' (Asked.Run names) refusal.OutOfMemory
    memory-fails part begun = record {
      cause = tt;
      output = inr (part-shown part);
      left = inr (some-traced played.steps (traces-part b d names.trace (run_trace plan played.steps) begun played.traced));
    }
