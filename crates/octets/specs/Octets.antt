-- OCTETS OF AN IMAGE: what is read and written at any place, of any length. Assumes nothing.
use Rattle.std.specs.Prelude.{ℕ, ◌+◌, ◌-◌, ◌^◌, ◌<◌, ◌≤◌, ◌≡◌, Bool, List, ◌++◌, length, take, drop, if◌then◌else◌}
use Rattle.meaning.specs.Basics.{◌=?◌, ◌≤?◌, part, splice, least_first, most_first, number_in, octets_least_first}
use Rattle.meaning.specs.Layout.{data_order}

-- n octets from p on lie inside the image
abbrev pub inside : (image : List ℕ) → (p n : ℕ) → Bool
inside img p n = p + n ≤? length img

-- the number of some octets in a DATA_ORDER; 0 where they are more than 8
unfoldable pub number_of : (order : ℕ) → List ℕ → ℕ
number_of order xs = if length xs ≤? 8 then number_in order xs else 0

-- the number of n octets at p; 0 where they don't lie inside the image
unfoldable pub number_read : (image : List ℕ) → (p n : ℕ) → ℕ
number_read img p n = if inside img p n then number_of (data_order img) (part img p n) else 0

-- octets put in place of as many from p on; the image as it was where they don't lie inside it
unfoldable pub put : (image : List ℕ) → (p : ℕ) → (new : List ℕ) → List ℕ
put img p new = if inside img p (length new) then splice img p new else img

-- octets in place of as many others; the others where they aren't as many
abbrev pub replaced : (old new : List ℕ) → List ℕ
replaced old new = if length new =? length old then new else old

-- READING, the most significant octet first
-- which of n octets is the i-th most significant: DATA_ORDER 0 is least significant octet first
unfoldable pub place_of : (order n i : ℕ) → ℕ
place_of order n i = if order =? 0 then n - 1 - i else i

-- the number of the i most significant of some octets
unfoldable pub counted_to : (octets : List ℕ) → (order i : ℕ) → ℕ
counted_to xs order i = if order =? 0 then least_first (drop (length xs - i) xs) else most_first (take i xs)

-- i of them are counted in
pub record Counting (xs : List ℕ) (order i number : ℕ) : Type 0 where
  pub few : length xs ≤ 8
  pub within : i ≤ length xs
  pub is : number ≡ counted_to xs order i
  pub fits : number < 256 ^ i

-- WRITING, the least significant octet first
-- i octets of the number x are filled into the room, and the number `rest` is left: what is filled and what is left lead to the whole
pub record Filling (room : List ℕ) (x : ℕ) (later : List ℕ) (rest i : ℕ) : Type 0 where
  pub within : i ≤ length room
  pub long : length later ≡ length room
  pub leads : octets_least_first (length room) x ≡ take i later ++ octets_least_first (length room - i) rest
