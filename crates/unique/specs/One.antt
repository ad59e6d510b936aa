-- ONE REPLY: no second reply fits what a call states. What it states is `says`, the whole of its contract as its callers learn it (`Learnt`, which Rattle makes
-- from the call's `ensures`): a fact of the arguments, the reply, and the parameters as they are at exit. Assumes nothing.
use Rattle.std.specs.Prelude.{ℕ, List, ◌≡◌}
use contract.Lifetimes.{Lfts}
use borrow.Fn.Kinds.{Out, ended_of, ParamKind, ResultKind, res_t, Dens}
use denote.Triple.Clauses.{Lasts, at_exit}

-- for all arguments: two replies that fit are one, and so are the later contents, `later` and `other`, of all memory lent to be written
abbrev pub OneReply : (n : ℕ) (parameters : List (ParamKind n)) (reply : ResultKind n) → Out n parameters reply → Type 0
OneReply n ps r says =
    (κs : Lfts n) (arguments : Dens κs ps) (x y : (res_t r κs).Denot) (later other : Lasts (ended_of n ps r) κs arguments) →
    says κs arguments x (at_exit (ended_of n ps r) κs arguments later) → says κs arguments y (at_exit (ended_of n ps r) κs arguments other) → (x ≡ y) × (later ≡ other)

-- the same of a reply that is a part of lent memory, by what is seen of it: where it stands, a block of memory and an octet in it, and its octets
abbrev pub OnePart : (n : ℕ) (parameters : List (ParamKind n)) (reply : ResultKind n) → (seen : (κs : Lfts n) → (res_t reply κs).Denot → (ℕ × ℕ) × List ℕ) → Out n parameters reply → Type 0
OnePart n ps r seen says =
    (κs : Lfts n) (arguments : Dens κs ps) (x y : (res_t r κs).Denot) (later other : Lasts (ended_of n ps r) κs arguments) →
    says κs arguments x (at_exit (ended_of n ps r) κs arguments later) → says κs arguments y (at_exit (ended_of n ps r) κs arguments other) → (seen κs x ≡ seen κs y) × (later ≡ other)
