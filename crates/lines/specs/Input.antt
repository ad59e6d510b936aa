-- What is held of a line while it is read. Assumes nothing.
use Rattle.std.specs.Prelude.{ℕ, ◌+◌, min, ◌≡◌, List, ◌++◌, length, take}

-- more octets of a line behind the `held` that `line` starts with: r are held then, all of them or as many as there is room for
pub record Held (line : List ℕ) (held : ℕ) (more later : List ℕ) (r : ℕ) : Type 0 where
  pub count : r ≡ min (held + length more) (length line)
  pub octets : take r later ≡ take r (take held line ++ more)
