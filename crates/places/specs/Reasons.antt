-- ONE STEP TOWARDS WHY THERE IS NO SUCH ELEMENT: what the item at a place is to the element asked for. Assumes nothing.
use Rattle.std.specs.Prelude.{ℕ, ◌+◌, ◌&&◌, List, Result, Ok, Err, if◌then◌else◌}
use Rattle.meaning.specs.declared.ElementName.{ElementName}
use Rattle.meaning.specs.Causes.{encloses, subscripts_of, is_below, is_taken}
use Rattle.meaning.specs.Description.{fields_at, is_array, is_choice}
use Rattle.meaning.specs.Layout.{Numbers}
use Rattle.meaning.specs.Numbers.{nothing_refused, branch_not_chosen, subscript_too_large}
use Rattle.meaning.specs.declared.Refusal.{Refusal}

-- item j, where k ARRAYs stand outside: as `in_the_way`, up to what follows
unfoldable pub step_in : (description : List ℕ) → Numbers → ElementName → (j k : ℕ) → Result ℕ Refusal
step_in d v q j k =
    if is_array (fields_at d j) && encloses (fields_at d j) j q.item then
    (if is_below d v (subscripts_of q) j k then Ok (k + 1) else Err (subscript_too_large k))
    else if is_choice (fields_at d j) && encloses (fields_at d j) j q.item then
    (if is_taken d v q.item j then Ok k else Err branch_not_chosen)
    else Ok k

-- as `in_the_way` has it: where nothing is in the way, the refusal that is none
abbrev pub refusal_in : Result (Unit {0}) Refusal → Refusal
refusal_in (Ok u) = nothing_refused
refusal_in (Err r) = r
