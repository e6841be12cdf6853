-- The rounds of small graphs, by computation.
use Rattle.std.proofs.Common.{◌≡◌, ℕ, ◌+◌, ◌*◌, ◌/◌, Bool, true, false, List, [], ◌∷◌, min, refl, not}
use Rattle.std.specs.Prelude.{◌==◌, if◌then◌else◌, codes, decimal, map}
use Rattle.std.specs.Fmt.{digits}
use Rattle.gr_base.specs.declared.records.Edge.{Edge}
use Rattle.gr_program.specs.Program.{Program}
use Rattle.gr_program.specs.Rounds.{state_after, after_round, first_state, last_from, last_round}
use Rattle.gr_program.specs.Result.{result_text}

-- shortest paths from a source, where 1000 says that there is none
abbrev paths : ℕ → Program ℕ ℕ
paths source = record {
  is_value = λ _. true;
  is_acc = λ _. true;
  start = λ v _ _. if v == source then 0 else 1000;
  unit = 1000;
  along = λ x w _. min (x + w) 1000;
  join = λ a b. min a b;
  apply = λ _ x a. min x a;
  wakes = λ x y. not (x == y);
  forgetful = false;
}

-- each vertex sums the shares of its sources, and adds ten times its id
abbrev shares : Program ℕ ℕ
shares = record {
  is_value = λ _. true;
  is_acc = λ _. true;
  start = λ _ i o. 100 * i + o;
  unit = 0;
  along = λ x w d. x * w / d;
  join = λ a b. a + b;
  apply = λ v x a. 10 * v + a;
  wakes = λ x y. not (x == y);
  forgetful = true;
}

abbrev edge : ℕ → ℕ → ℕ → Edge
edge s d w = record { src = s; dst = d; weight = w }

-- 0 to 1, 1 to 2, 0 to 2
abbrev triangle : List Edge
triangle = edge 0 1 1 ∷ edge 1 2 1 ∷ edge 0 2 1 ∷ []

-- 0 to 1 twice, and 1 to itself
abbrev repeated : List Edge
repeated = edge 0 1 3 ∷ edge 0 1 5 ∷ edge 1 1 1 ∷ []

abbrev three : List ℕ
three = 0 ∷ 1 ∷ 2 ∷ []

result_of_triangle : result_text (paths 0) decimal triangle three 1000 ≡ codes "done 2 3\n0 0\n1 1\n2 1\n"
unfolding digits state_after after_round first_state last_from
result_of_triangle = refl

result_at_the_limit : result_text (paths 0) decimal triangle three 1 ≡ codes "done 1 3\n0 0\n1 1\n2 1\n"
unfolding digits state_after after_round first_state last_from
result_at_the_limit = refl

result_of_nothing : result_text (paths 0) decimal [] [] 1000 ≡ codes "done 0 0\n"
unfolding digits state_after after_round first_state last_from
result_of_nothing = refl

-- after one round the vertex 0 has changed nothing, and both others woke
active_after_one : map (state_after (paths 0) triangle 1).active three ≡ false ∷ false ∷ true ∷ []
unfolding state_after after_round first_state
active_after_one = refl

-- degrees, repeated edges and a self-loop count
values_of_repeated : map (λ r. map (state_after shares repeated r).value (0 ∷ 1 ∷ [])) (0 ∷ 1 ∷ 2 ∷ []) ≡ (2 ∷ 301 ∷ []) ∷ (0 ∷ 319 ∷ []) ∷ (0 ∷ 329 ∷ []) ∷ []
unfolding state_after after_round first_state
values_of_repeated = refl
