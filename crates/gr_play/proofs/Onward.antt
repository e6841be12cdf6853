-- How canonical events go on, one after the other.
use Rattle.std.proofs.Common.{◌≡◌, ◌≤◌, ◌<◌, ℕ, ◌+◌, List, [], ◌∷◌, cond, ◌&&◌, Bool, true, false, refl, sym, ap, ◌∙◌, subst, arith, Some, None, ◌⊎◌}
use Rattle.std.specs.Prelude.{IsTrue, Result, Ok, Err, OnOk, OnErr}
use Rattle.std.proofs.lemmas.List.Sums.{sum_by-cons}
use Rattle.gr_program.specs.Program.{Program}
use Rattle.gr_program.specs.ProgramLaws.{ProgramLaws}
use Rattle.gr_batch.specs.Telling.{Telling}
use Rattle.gr_outside.specs.Causes.{Rose}
use Rattle.gr_outside.specs.Files.{FilesSeen}
use Rattle.gr_sched.specs.declared.event.Event.{Event}
use Rattle.gr_sched.specs.declared.event.Line.{Line}
use Rattle.gr_sched.specs.declared.event.Line.TheVariants as line
use Rattle.gr_sched.specs.Reading.{places_of, are_below}
use Rattle.gr_cluster.specs.Tables.{Cluster}
use Rattle.gr_cluster.specs.Canonical.{next_canonical}
use Rattle.gr_cluster.specs.ToGo.{to_go}
use Rattle.gr_agree.specs.Agree.{Invariant}
use Rattle.gr_law_runs.proofs.Bounds.ToGo.{to_go-falls, canonical-is}
use Rattle.gr_play.specs.Playing.{start, names_event, event_lines}
use Rattle.gr_play.specs.Inside.Progress.{canonical_line, PlaysTo, PlaysPart, PlaysEvent, FailsBefore, FailsAfter}
use Rattle.gr_play.specs.Inside.Room.{HasRoomFor}
use Rattle.gr_play.proofs.Kept.{Moved, PlaysEvent-moved, Fails-moved}
use Rattle.gr_play.proofs.Positions.{SameFrom-refl}
use Rattle.gr_play.proofs.Reached.{PlaysTo-trans, PlaysTo-part, PlaysTo-nothing, PlaysTo-event, PlaysPart-event, event-at_line, event-at_step, next-at_step, next-goes_on, next-commits, same-passed}
use Rattle.gr_play.proofs.Rooms.{HasRoomFor-event}

pub Rose-later : (a b d : ℕ) → a ≤ b → Rose b d → Rose a d
Rose-later a b d le r = omega (arith, le, r)

-- what canonical events leave of a cluster, its places and its room
pub record Onward {V A : Type 0} (P : Program V A) (c : Cluster V A) (from : ℕ) (d : Cluster V A) (to : ℕ) : Type 0 where
  pub places : d.places ≡ c.places
  pub agrees : Invariant P d
  pub few : to + to_go d ≤ from + to_go c
  pub room : (n : ℕ) → HasRoomFor c from n → HasRoomFor d to n

pub Onward-nothing : {V A : Type 0} (P : Program V A) (c : Cluster V A) (from : ℕ) → Invariant P c → Onward P c from c from
Onward-nothing P c from I = record { places = refl; agrees = I; few = omega arith; room = λ n R. R }

-- how far canonical events have come that are played for a line
pub record Going {V A : Type 0} (P : Program V A) (T : Telling V A) (traced through : Bool) (c0 : Cluster V A) (from : ℕ) (a : FilesSeen) (c : Cluster V A) (now : ℕ) (b : FilesSeen) : Type 0 where
  pub onward : Onward P c0 from c now
  pub begun : b.is_begun ≡ a.is_begun
  pub later : a.write_faults ≤ b.write_faults
  pub played : (rest : List Line) → PlaysTo P T traced from now a b (start c0 (canonical_line through ∷ rest)) (start c (canonical_line through ∷ rest))

module _ {V A : Type 0} (P : Program V A) (L : ProgramLaws P) (T : Telling V A) (traced through : Bool) (c0 : Cluster V A) (from : ℕ) (a : FilesSeen) where
  pub Going-nothing : Invariant P c0 → Going P T traced through c0 from a c0 from a
  Going-nothing I = record {
    onward = Onward-nothing P c0 from I;
    begun = refl;
    later = omega arith;
    played = λ rest. let s = start c0 (canonical_line through ∷ rest) in PlaysTo-nothing P T traced from from a a s s refl refl (SameFrom-refl P s);
  }

  module _ (c : Cluster V A) (now : ℕ) (b : FilesSeen) (G : Going P T traced through c0 from a c now b) where
    -- where none comes the line is passed
    pub Going-passed : next_canonical c ≡ None → (rest : List Line) → PlaysTo P T traced from now a b (start c0 (canonical_line through ∷ rest)) (start c rest)
    Going-passed none rest =
        let s = start c (canonical_line through ∷ rest) in
        PlaysTo-trans P T traced from now now a b b (start c0 (canonical_line through ∷ rest)) s (start c rest) (G.played rest)
        (PlaysTo-nothing P T traced now now b b s (start c rest) refl refl (same-passed P c rest through none))

    module _ (e : Event) (is : next_canonical c ≡ Some e) where
      I : Invariant P c
      I = (G.onward).agrees

      onward-moved : (d : Cluster V A) (to : ℕ) → Invariant P d → Moved P L c I now e d to → Onward P c0 from d to
      onward-moved d to K M = record {
        places = M.places ∙ (G.onward).places;
        agrees = K;
        few = let f = (G.onward).few in let n = M.nearer is in omega (arith, f, n);
        room = λ n R. M.room is n ((G.onward).room n R);
      }

      -- the next one names places of the cluster
      pub Going-placed : IsTrue (are_below c.places (places_of (line.Step e)))
      Going-placed = (canonical-is P I.0 c I.1 e is).placed

      module _ (d : Cluster V A) (K : Invariant P d) (to : ℕ) (b' : FilesSeen) where
        -- it fails
        pub Going-part : FailsBefore P T traced now to b b' c e d ⊎ FailsAfter P T traced now to b b' c e d → (rest : List Line) → PlaysPart P T traced from to a b' (start c0 (canonical_line through ∷ rest)) d
        Going-part x rest =
            let s = start c (canonical_line through ∷ rest) in
            PlaysTo-part P T traced from now to a b b' (start c0 (canonical_line through ∷ rest)) s d (G.played rest)
            (PlaysPart-event P T traced now to b b' s e d (event-at_line P c rest through e is) x)

        pub Going-failed : FailsBefore P T traced now to b b' c e d ⊎ FailsAfter P T traced now to b b' c e d → Onward P c0 from d to
        Going-failed x = onward-moved d to K (Fails-moved P L c I now e T traced b b' d K to x)

        module _ (commits : Bool) (x : PlaysEvent P T traced now to b b' c e d commits) where
          pub Going-onward : Onward P c0 from d to
          Going-onward = onward-moved d to K (PlaysEvent-moved P L c I now e T traced b b' d K to commits x)

          pub Going-nearer : to_go d < to_go c
          Going-nearer = subst (λ k. to_go k < to_go c) (sym x.cluster) (to_go-falls P c e I (subst (Invariant P) x.cluster K) L is)

          -- it ends the line
          pub Going-ended : (commits && through) ≡ true → (rest : List Line) → PlaysTo P T traced from to a b' (start c0 (canonical_line through ∷ rest)) (start d rest)
          Going-ended on rest =
              let s = start c (canonical_line through ∷ rest) in
              let on' = sym (ap (λ k. k && through) x.told) ∙ on in
              PlaysTo-trans P T traced from now to a b b' (start c0 (canonical_line through ∷ rest)) s (start d rest) (G.played rest)
              (PlaysTo-event P T traced now to b b' s e d (event-at_line P c rest through e is) commits (start d rest)
              (next-commits P c rest through e is on' ∙ ap (λ k. start k rest) (sym x.cluster)) x)

          -- it goes on
          pub Going-on : (commits && through) ≡ false → Going P T traced through c0 from a d to b'
          Going-on off =
              let off' = sym (ap (λ k. k && through) x.told) ∙ off in
              record {
                onward = Going-onward;
                begun = (x.added).begun ∙ G.begun;
                later = let l = G.later in let m = (x.added).later in omega (arith, l, m);
                played = λ rest.
                    let s = start c (canonical_line through ∷ rest) in
                    let t = start d (canonical_line through ∷ rest) in
                    PlaysTo-trans P T traced from now to a b b' (start c0 (canonical_line through ∷ rest)) s t (G.played rest)
                    (PlaysTo-event P T traced now to b b' s e d (event-at_line P c rest through e is) commits t
                    (next-goes_on P c rest through e is off' ∙ ap (λ k. start k (canonical_line through ∷ rest)) (sym x.cluster)) x);
              }

-- the event of a line
module _ {V A : Type 0} (P : Program V A) (T : Telling V A) (traced : Bool) (c : Cluster V A) (from to : ℕ) (a b : FilesSeen) (e : Event) (d : Cluster V A) where
  pub Step-part : FailsBefore P T traced from to a b c e d ⊎ FailsAfter P T traced from to a b c e d → (rest : List Line) → PlaysPart P T traced from to a b (start c (line.Step e ∷ rest)) d
  Step-part x rest = PlaysPart-event P T traced from to a b (start c (line.Step e ∷ rest)) e d (event-at_step P c rest e) x

  module _ (commits : Bool) (x : PlaysEvent P T traced from to a b c e d commits) where
    pub Step-to : (rest : List Line) → PlaysTo P T traced from to a b (start c (line.Step e ∷ rest)) (start d rest)
    Step-to rest =
        PlaysTo-event P T traced from to a b (start c (line.Step e ∷ rest)) e d (event-at_step P c rest e) commits (start d rest)
        (next-at_step P c rest e ∙ ap (λ k. start k rest) (sym x.cluster)) x

    pub Step-room : Invariant P c → Invariant P d → (n : ℕ) → HasRoomFor c from (n + 1) → HasRoomFor d to n
    Step-room I K n R = subst (λ k. HasRoomFor d k n) (sym x.counted)
        (subst (λ k. HasRoomFor k (from + 1) n) (sym x.cluster) (HasRoomFor-event P c e I (subst (Invariant P) x.cluster K) from n R))

pub OnErr-map : {X E : Type 0} {Y Z : Type 0} (r : Result X E) → (Y → Z) → OnErr r Y → OnErr r Z
OnErr-map (Ok x) f y = tt
OnErr-map (Err x) f y = f y

pub OnOk-of : {X E : Type 0} {Y : Type 0} (r : Result X E) → Y → OnOk r Y
OnOk-of (Ok x) y = y
OnOk-of (Err x) y = tt

-- the event lines of a schedule are its first line's and those of the rest
pub event_lines-cons : (l : Line) (ls : List Line) → event_lines (l ∷ ls) ≡ event_lines (l ∷ []) + event_lines ls
event_lines-cons l ls =
    let all = sum_by-cons (λ k. cond {A = ℕ} (names_event k) 1 0) l ls in
    let one = sum_by-cons (λ k. cond {A = ℕ} (names_event k) 1 0) l [] in omega (arith, all, one)
