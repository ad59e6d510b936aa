-- DEMAND 1, for every description, image and question, of our replies. Assumes nothing.
use Prim.Native.Nat.{ℕ}
use mathlib.Core.Path.{◌≡◌, refl, sym, subst}
use mathlib.Core.Bool.{true, false}
use mathlib.Core.List.{List, []}
use mathlib.Core.Option.{some}
use lib.ListN.{replicate}
use Rattle.meaning.specs.Basics.{build}
use Rattle.meaning.specs.declared.Refusal.{Refusal}
use Rattle.meaning.specs.Refusals.{told_by, place_part, table_part_reply, element_part_reply, read_range_part}
use Rattle.meaning.specs.Calendar.{Found, found, missing, matrix_in, matrix_reply, matrix_verdict_in, matrix_verdict, cells_after}
use Rattle.meaning.specs.Questions as ask
use Rattle.meaning.specs.Questions.{Question, refusal_in}
use Rattle.demands.specs.Demand1.{ten, twelve, thirteen, fourteen, fifteen, twenty, nineteen, sixteen_to_nineteen, sixteen}
use Rattle.demands.specs.Demand1.{of_calendar, of_moment, refusals_of, Numbered, Asked, NoOctets, Demand1}
use Rattle.demands.specs.Replies.{ours, outcome_by}
use Rattle.laying.specs.Every.{Every}
use Rattle.laying.proofs.Every.{every_append}
use Rattle.demands.proofs.Demand2.{demand_2}
use Rattle.demands.proofs.Known.{KnownIn, known_last, known_more, first_known, sound_known, layout_knows, after, one_known, two_known, three_known, four_known, causes_known}
use Rattle.demands.proofs.OnlyFirst.{verdict_refused}
use Rattle.demands.proofs.FirstGiven.{first_given}
use Rattle.demands.proofs.Rules.{check_in_words}
use Rattle.meaning.proofs.Either.{clash}
use Rattle.std.specs.Prelude.{Ok, Err}
use Rattle.meaning.specs.Values.{Verdict, Place, Reply}
use Rattle.meaning.specs.declared.Answer.{Answer}

-- BY ITS NUMBERS: each kind of reply
reply_numbered : (r : Reply) → KnownIn (refusal_in r) → Numbered (refusal_in r) (told_by r)
unfolding refusal_in told_by KnownIn
reply_numbered (Err r) h = record { are = refl; on_paper = h }
reply_numbered (Ok Answer.Passed) h = refl
reply_numbered (Ok (Answer.Total n)) h = refl
reply_numbered (Ok (Answer.At e)) h = refl
reply_numbered (Ok (Answer.Number x)) h = refl
reply_numbered (Ok (Answer.Tier t)) h = refl
reply_numbered (Ok Answer.NoneYet) h = refl
reply_numbered (Ok Answer.Yes) h = refl
reply_numbered (Ok Answer.No) h = refl
reply_numbered (Ok (Answer.Weekday w)) h = refl

-- EACH QUESTION: its refusals are document 01's, and where it is refused no octet changes
record Kept (d img : List ℕ) (q : Question) : Type 0 where
  known : Every KnownIn (refusals_of ours q d img)
  unchanged : (r : Refusal) → refusal_in (outcome_by ours q d img).reply ≡ some r → (outcome_by ours q d img).image ≡ img

-- the tests behind 1 to 9
unfoldable tests : Unit {0}
unfolding ten twelve thirteen fourteen fifteen twenty of_calendar of_moment sixteen_to_nineteen sixteen nineteen
tests = tt

-- some tests behind 1 to 9; and the image as it was
kept : (d img : List ℕ) (q : Question) → Kept d img q
unfolding outcome_by refusals_of tests
kept d img ask.check = record { known = known_more _ _ (sound_known d) known_last; unchanged = λ r e. refl }
kept d img ask.layout = record { known = layout_knows d img; unchanged = λ r e. refl }
kept d img (ask.table_place m k) = record { known = after d img _ (one_known _ _ refl); unchanged = λ r e. refl }
kept d img (ask.table_part m k) = record { known = after d img _ (one_known _ _ refl); unchanged = λ r e. refl }
kept d img (ask.element_place q) = record { known = after d img _ (causes_known false d _ q); unchanged = λ r e. refl }
kept d img (ask.element_part q) = record { known = after d img _ (causes_known false d _ q); unchanged = λ r e. refl }
kept d img (ask.element_number q) = record { known = after d img _ (causes_known true d _ q); unchanged = λ r e. refl }
kept d img (ask.write_range m k o new) =
    record {
      known = after d img _ (four_known _ _ _ _ _ _ _ _ refl refl refl refl);
      unchanged = λ r e. ((demand_2 d img).range m k o new).unchanged r (verdict_refused _ r e);
    }
kept d img (ask.write_octets q new) =
    record {
      known = after d img _ (every_append KnownIn _ _ (causes_known false d _ q) (three_known _ _ _ _ _ _ refl refl refl));
      unchanged = λ r e. ((demand_2 d img).octets q new).unchanged r (verdict_refused _ r e);
    }
kept d img (ask.write_number q x) =
    record {
      known = after d img _ (every_append KnownIn _ _ (causes_known true d _ q) (three_known _ _ _ _ _ _ refl refl refl));
      unchanged = λ r e. ((demand_2 d img).number q x).unchanged r (verdict_refused _ r e);
    }
kept d img (ask.tier w q) =
    record {
      known = after d img _ (every_append KnownIn _ _ (four_known _ _ _ _ _ _ _ _ refl refl refl refl) (three_known _ _ _ _ _ _ refl refl refl));
      unchanged = λ r e. refl;
    }
kept d img ask.matrix = record { known = after d img _ (four_known _ _ _ _ _ _ _ _ refl refl refl refl); unchanged = λ r e. refl }
kept d img (ask.seasoned t) =
    record { known = after d img _ (every_append KnownIn _ _ (four_known _ _ _ _ _ _ _ _ refl refl refl refl) (one_known _ _ refl)); unchanged = λ r e. refl }
kept d img (ask.read_range m k o n) = record { known = after d img _ (two_known _ _ _ _ refl refl); unchanged = λ r e. refl }
kept d img (ask.weekday t) = record { known = one_known _ _ refl; unchanged = λ r e. refl }

-- THE REPLIES THAT ARE OCTETS
part_none : (img : List ℕ) (x : Place) (r : Refusal) → x ≡ Err r → place_part img x ≡ []
unfolding place_part
part_none img x r e = rw e

no_matrix : (f : Found) (r : Refusal) → matrix_verdict_in f ≡ Err r → matrix_in f ≡ replicate 15 (replicate 22 0)
unfolding matrix_verdict_in matrix_in build
no_matrix (found o c t) r e = clash (cc)
no_matrix (missing x) r e = refl

-- cells lent stay as they were
cells_stay : (v : Verdict) (r : Refusal) (matrix lent : List (List ℕ)) → v ≡ Err r → cells_after v matrix lent ≡ lent
unfolding cells_after
cells_stay v r matrix lent e = rw e

octets_all : (d img : List ℕ) → NoOctets ours d img
unfolding table_part_reply element_part_reply read_range_part matrix_reply matrix_verdict
octets_all d img =
    record {
      table_part = λ m k r e. part_none img _ r e;
      element_part = λ q r e. part_none img _ r e;
      range_part = λ m k o n r e. part_none img _ r e;
      matrix = λ r e. no_matrix _ r e;
      matrix_cells = λ r e lent. cells_stay _ r _ lent e;
    }

-- ALL OF IT
pub demand_1 : (d img : List ℕ) → Demand1 ours d img
demand_1 d img = record { asked = asked; rules = check_in_words d; octets = octets_all d img }
  where
    asked : (q : Question) → Asked ours d img q
    asked q =
        let first = first_given d img q in
        record {
          first = first;
          numbered = reply_numbered (outcome_by ours q d img).reply (subst KnownIn (sym first) (first_known _ (kept d img q).known));
          unchanged = (kept d img q).unchanged;
        }
