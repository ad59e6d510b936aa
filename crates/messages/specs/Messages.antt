-- WHAT IS KNOWN BELOW THE PUBLIC CALLS: of a message being put together, of data found in one, and of what the tables say. Assumes nothing.
use Rattle.std.specs.Prelude.{◌≡◌, ℕ, ◌+◌, ◌<◌, ◌≤◌, true, false, List, length, Ok, Err, Some, None, Option}
use Rattle.meaning.specs.Basics.{part, splice}
use Rattle.meaning.specs.Messages.{number_from, is_counted, MeterReply, holds, done, refuses, code_of}
use Rattle.meaning.specs.Values.{Verdict, Place, passed, at}

-- octets were put at `at`: the reply is the next place, and no other octet changes
pub record IsPut (room : List ℕ) (at : ℕ) (xs later : List ℕ) (next : ℕ) : Type 0 where
  pub fits : at + length xs ≤ length room
  pub reply : next ≡ at + length xs
  pub memory : later ≡ splice room at xs

-- count, n octets of data and the check octet stand from `at` on, up to the end
pub record Stands (message : List ℕ) (at n : ℕ) : Type 0 where
  pub is : is_counted message at ≡ true
  pub count : n ≡ number_from message at 2
  pub long : length message ≡ at + 3 + n
  pub few : n < 65536

-- so they do, or they don't
abbrev pub CountedAs : (message : List ℕ) → (at : ℕ) → Option ℕ → Type 0
CountedAs xs at (Some n) = Stands xs at n
CountedAs xs at None = is_counted xs at ≡ false

-- WHAT THE TABLES SAY, as a reply
unfoldable pub verdict_answer : Verdict → MeterReply
verdict_answer passed = done
verdict_answer (Err r) = refuses (code_of r)

unfoldable pub place_answer : (image : List ℕ) → Place → MeterReply
place_answer img (Ok e) = holds (part img e.start.0 e.length)
place_answer img (Err r) = refuses (code_of r)
