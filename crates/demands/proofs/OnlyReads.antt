-- THE DEMANDS DECIDE EVERY READ: two families R and S that meet them check alike, tell the same total, tables and elements, the same parts of the image and the same numbers. Assumes of
-- S besides that the places of a name past its count aren't read: `one` of specs/Demand3 says only whose element an octet is.
use Prim.Native.Nat.{ℕ, ◌+◌, ◌≤◌}
use mathlib.Core.Path.{◌≡◌, refl, sym, ◌∙◌, ap}
use mathlib.Core.List.{List, [], ◌∷◌}
use borrow.Author.Tests.{ltb-false}
use Rattle.offsets.specs.declared.TableOffset.{TableOffset}
use Rattle.meaning.specs.Basics.{◌<?◌}
use Rattle.meaning.specs.declared.ElementName.{ElementName}
use Rattle.meaning.specs.Numbers.{outside_table}
use Rattle.meaning.specs.Questions as ask
use Rattle.meaning.specs.Questions.{refusal_in}
use Rattle.meaning.specs.Refusals.{place_length}
use Rattle.demands.specs.Given.{given, first_of}
use Rattle.demands.specs.Demand1.{ten, twelve, refusals_of}
use Rattle.demands.specs.Demand3.{SameName}
use Rattle.demands.specs.Demands.{Demands}
use Rattle.demands.specs.Replies.{Replies, outcome_by, octets_at}
use Rattle.demands.proofs.OnlyFirst.{reply_same, place_same, first_none, given_none, refusal_same, check_decided}
use Rattle.demands.proofs.OnlyNames.{existing, names_compared}
use Rattle.demands.proofs.OnlyPlaces.{told, total_is, table_told, element_told, number_told, Is, start, size, Before, stands_at, set_out, tiled}
use Rattle.demands.proofs.OnlyTiles.{stands_there}
use Rattle.meaning.specs.Values.{Place}
use Rattle.std.specs.Prelude.{Ok, Err}
use Rattle.meaning.specs.Values.{at}

-- names are read up to their counts
abbrev pub Counted : Replies → Type 0
Counted S = (d img : List ℕ) (q t : ElementName) → SameName q t → q.count ≤ 4 → t.count ≤ 4 → S.element_place d img q ≡ S.element_place d img t

module _ (R S : Replies) (r : Demands R) (s : Demands S) where
  pub check_only : (d : List ℕ) → R.check d ≡ S.check d
  check_only d = check_decided d (R.check d) (r.first d []).rules ∙ sym (check_decided d (S.check d) (s.first d []).rules)

  module _ (d img : List ℕ) where
    pub layout_only : R.layout d img ≡ S.layout d img
    unfolding outcome_by refusals_of
    layout_only =
        let e = refusal_same R S r s d img ask.layout (rw (check_only d)) in
        reply_same (R.layout d img) (S.layout d img) e (λ f. total_is R r d img f ∙ sym (total_is S s d img (sym e ∙ f)))

    pub table_only : (m k : ℕ) → R.table_place d img m k ≡ S.table_place d img m k
    unfolding outcome_by refusals_of
    table_only m k =
        let e = refusal_same R S r s d img (ask.table_place m k) (rw layout_only) in
        place_same (R.table_place d img m k) (S.table_place d img m k) e (λ f.
        let at = told (R.table_place d img m k) f in
        let seated = ((r.third d img).tables_stand _ (table_told R r d img m k f) m k _ _).0 at in
        at ∙ sym (((s.third d img).tables_stand _ (table_told S s d img m k (sym e ∙ f)) m k _ _).1 seated))

    pub table_part_only : (m k : ℕ) → R.table_part d img m k ≡ S.table_part d img m k
    table_part_only m k = go (R.table_place d img m k) refl
      where
        go : (x : Place) → R.table_place d img m k ≡ x → R.table_part d img m k ≡ S.table_part d img m k
        go (Ok w) e =
            (r.second d img).reads.table m k _ w.length e ∙ sym ((s.second d img).reads.table m k _ w.length (sym (table_only m k) ∙ e))
        go (Err x) e =
            (r.first d img).octets.table_part m k x e ∙ sym ((s.first d img).octets.table_part m k x (sym (table_only m k) ∙ e))

    -- a range of a table: the table is told, and the range lies in it
    pub read_only : (m k : ℕ) (o : TableOffset) (n : ℕ) → R.read_range d img m k o n ≡ S.read_range d img m k o n
    unfolding outcome_by refusals_of twelve first_of
    read_only m k o n =
        let e = refusal_same R S r s d img (ask.read_range m k o n) (rw (layout_only, table_only m k)) in
        place_same (R.read_range d img m k o n) (S.read_range d img m k o n) e (λ f.
        let size = place_length (R.table_place d img m k) in
        let past = given (size <? o.0 + n) outside_table in
        let a = first_none (refusal_in (R.layout d img)) (ten d m k ∷ past ∷ []) (sym ((r.first d img).asked (ask.read_range m k o n)).first ∙ f) in
        let b = first_none (ten d m k) (past ∷ []) a.1 in
        let fits = ltb-false size (o.0 + n) (given_none _ outside_table (first_none past [] b.1).0) in
        let at = told (R.table_place d img m k) (((r.first d img).asked (ask.table_place m k)).first ∙ rw (a.0, b.0)) in
        (r.second d img).reads.range m k _ _ o n at fits ∙ sym ((s.second d img).reads.range m k _ _ o n (sym (table_only m k) ∙ at) fits))

    pub read_part_only : (m k : ℕ) (o : TableOffset) (n : ℕ) → R.range_part d img m k o n ≡ S.range_part d img m k o n
    read_part_only m k o n = go (R.read_range d img m k o n) refl
      where
        go : (x : Place) → R.read_range d img m k o n ≡ x → R.range_part d img m k o n ≡ S.range_part d img m k o n
        go (Ok w) e =
            (r.second d img).reads.range_part m k o n _ w.length e ∙ sym ((s.second d img).reads.range_part m k o n _ w.length (sym (read_only m k o n) ∙ e))
        go (Err x) e =
            (r.first d img).octets.range_part m k o n x e ∙ sym ((s.first d img).octets.range_part m k o n x (sym (read_only m k o n) ∙ e))

    module _ (counted : Counted S) where
      pub element_only : (q : ElementName) → R.element_place d img q ≡ S.element_place d img q
      unfolding outcome_by refusals_of
      element_only q =
          let e = refusal_same R S r s d img (ask.element_place q) (rw layout_only) in
          place_same (R.element_place d img q) (S.element_place d img q) e (λ f.
          let a = element_told R r d img q f in
          let b = (element_told S s d img q (sym e ∙ f)).layout in
          let same =
          stands_there (Is d img) (Before d img) SameName (size d img) (start S s d img) (start R r d img) _
          (λ q t h k. names_compared d q t (existing d _ q h) (existing d _ t k))
          (set_out S s d img b) (tiled S s d img b (counted d img)) (set_out R r d img a.layout) q a.named in
          stands_at R r d img a.layout q a.named ∙ ap (λ p. octets_at p (size d img q)) same ∙ sym (stands_at S s d img b q a.named))

      pub element_part_only : (q : ElementName) → R.element_part d img q ≡ S.element_part d img q
      element_part_only q = go (R.element_place d img q) refl
        where
          go : (x : Place) → R.element_place d img q ≡ x → R.element_part d img q ≡ S.element_part d img q
          go (Ok w) e =
              (r.second d img).reads.element q _ w.length e ∙ sym ((s.second d img).reads.element q _ w.length (sym (element_only q) ∙ e))
          go (Err x) e =
              (r.first d img).octets.element_part q x e ∙ sym ((s.first d img).octets.element_part q x (sym (element_only q) ∙ e))

      pub number_only : (q : ElementName) → R.element_number d img q ≡ S.element_number d img q
      unfolding outcome_by refusals_of
      number_only q =
          let e = refusal_same R S r s d img (ask.element_number q) (rw layout_only) in
          reply_same (R.element_number d img q) (S.element_number d img q) e (λ f.
          let a = number_told R r d img q f in
          let at = stands_at R r d img a.layout q a.named.0 in
          let uint = a.named.1 in
          (r.second d img).reads.number q _ _ at uint ∙ sym ((s.second d img).reads.number q _ _ (sym (element_only q) ∙ at) uint))
