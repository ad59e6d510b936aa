-- `words::put_text`: a law for room and one for no room. Assumes nothing.
use mathlib.Core.Path.{refl}
use native.Mathlib.Omega.{arith}
use Rattle.std.proofs.lemmas.Grind.{common_steps}
use Rattle.words.specs.Put.{laid}
use Rattle.words.proofs.PutLaws.{put, no_room_lem}
use Rattle.words.proofs.reply.put_text.Goals as goal

pub returns-then-out-at : goal.returns-then-out-at
returns-then-out-at c = no_room_lem _ (omega arith)

pub returns-then-out-at-2 : goal.returns-then-out-at-2
returns-then-out-at-2 c = no_room_lem _ (omega arith)

pub returns : goal.returns
unfolding laid
returns c = put (omega arith) (grind (arith, common_steps)) refl
