-- `walk::step`: the octet of the image is the table's start and what is walked, and the piece ends inside or not; it sets a slot or none. Assumes nothing.
use mathlib.Core.Path.{◌≡◌, ◌∙◌}
use native.Mathlib.Omega.{arith}
use Rattle.std.specs.Option.{option_map}
use Rattle.std.proofs.Common.{rules}
use Rattle.places.specs.Rows.{onward_by}
use Rattle.places.specs.Walking.{place}
use Rattle.places.proofs.Pieces.{step_plain, step_sets, step_short}
use Rattle.places.proofs.walk.step.Goals as goal

pub returns-then-image-octet : goal.returns-then-image-octet
returns-then-image-octet c =
    let here : c.in_image-here.result.0 ≡ place c.args.aim c.args.w.now = omega (arith, c.in_image-here.ensures, c.requires.inside, c.requires.small) in
    step_short _ _ _ _ _ _ (omega (arith, c.if-image-octet.true, c.octet.ensures, c.in_image-here.ensures, c.requires.inside, c.requires.small)) (c.image_short.ensures ∙ rw here)

pub returns-then-slot-eq0 : goal.returns-then-slot-eq0
returns-then-slot-eq0 c =
    let moved : c.map.result ≡ option_map (onward_by c.args.w.now.octets.0) c.args.piece.row = search rules in
    step_plain _ _ _ _ _ _ c.if-slot-eq0.true _ _ (omega (arith, c.if-image-octet.false, c.octet.ensures, c.in_image-here.ensures, c.requires.inside, c.requires.small)) (c.new-octets.ensures ∙ rw c.octets-far.ensures) (c.or-row.ensures ∙ rw moved)

pub returns : goal.returns
returns c =
    let moved : c.map.result ≡ option_map (onward_by c.args.w.now.octets.0) c.args.piece.row = search rules in
    let here : c.in_image-here.result.0 ≡ place c.args.aim c.args.w.now = omega (arith, c.in_image-here.ensures, c.requires.inside, c.requires.small) in
    step_sets _ _ _ _ _ _ (omega (arith, c.if-slot-eq0.false)) _ _ _ _ _ (omega (arith, c.if-image-octet.false, c.octet.ensures, here, c.requires.inside, c.requires.small)) here c.noted.ensures
    (c.new-octets.ensures ∙ rw c.octets-far.ensures) (c.or-row.ensures ∙ rw moved) (c.either.ensures ∙ rw c.holds_one-dimension.ensures)
