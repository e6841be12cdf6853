-- What part of a run a call has played, and what it added to the trace.
use Rattle.std.specs.Prelude.{ℕ, ◌+◌, ◌≡◌, Bool, List, take, Some, length, if◌then◌else◌}
use Rattle.gr_program.specs.Program.{Program}
use Rattle.gr_batch.specs.Telling.{Telling}
use Rattle.gr_outside.specs.Files.{FilesSeen}
use Rattle.gr_sched.specs.declared.event.Event.{Event}
use Rattle.gr_sched.specs.declared.event.Line.{Line}
use Rattle.gr_sched.specs.declared.event.Line.TheVariants as line
use Rattle.gr_cluster.specs.Tables.{Cluster}
use Rattle.gr_cluster.specs.Step.{step}
use Rattle.gr_cluster.specs.Runs.{Position, is_commit, next_event, next_position, position_after, steps_of}
use Rattle.gr_cluster.specs.TraceText.{trace_line}
use Rattle.gr_play.specs.Playing.{Plays}
use Rattle.gr_play.specs.Inside.Adding.{Adds}
use Rattle.gr_play.specs.TracedSteps.{text_of_steps}

-- the line that canonical events are played for: through a commit, or to the end
abbrev pub canonical_line : Bool → Line
canonical_line through_commit = if through_commit then line.Settle else line.Finish

module _ {V A : Type 0} (P : Program V A) where
  -- the same comes from two positions
  pub record SameFrom (s t : Position V A) : Type 0 where
    pub cluster : s.cluster ≡ t.cluster
    pub event : next_event s ≡ next_event t
    pub next : (e : Event) → next_event s ≡ Some e → next_position P s ≡ next_position P t

  -- so many steps lead from one position to another
  pub record Leads (s : Position V A) (n : ℕ) (t : Position V A) : Type 0 where
    pub count : length (steps_of P n s) ≡ n
    pub same : SameFrom (position_after P n s) t

  module _ (T : Telling V A) (traced : Bool) (from to : ℕ) (before after : FilesSeen) where
    -- a call played from one position to another, counted the steps and added their lines
    pub record PlaysTo (s t : Position V A) : Type 0 where
      pub taken : ℕ
      pub counted : to ≡ from + taken
      pub leads : Leads s taken t
      pub added : Adds traced before after (text_of_steps P T s taken)

    -- a call that failed played some first steps, counted them, and added a first part of their lines
    pub record PlaysPart (s : Position V A) (end : Cluster V A) : Type 0 where
      pub taken : ℕ
      pub counted : to ≡ from + taken
      pub plays : Plays P s taken end
      pub part : ℕ
      pub added : Adds traced before after (take part (text_of_steps P T s taken))

    module _ (c : Cluster V A) (e : Event) (d : Cluster V A) where
      -- the line of an event
      abbrev pub line_of_event : List ℕ
      line_of_event = trace_line T (record { event = e; outcome = (step P c e).1 })

      -- one event was played, and whether it was a commit is told
      pub record PlaysEvent (commits : Bool) : Type 0 where
        pub cluster : d ≡ (step P c e).0
        pub told : commits ≡ is_commit (step P c e).1
        pub counted : to ≡ from + 1
        pub added : Adds traced before after line_of_event

      -- a call failed before the event, or once it was played
      pub record FailsBefore : Type 0 where
        pub cluster : d ≡ c
        pub counted : to ≡ from
        pub untouched : after ≡ before

      pub record FailsAfter : Type 0 where
        pub cluster : d ≡ (step P c e).0
        pub counted : to ≡ from + 1
        pub part : ℕ
        pub added : Adds traced before after (take part line_of_event)
