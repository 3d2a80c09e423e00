-- `Classes::class_of` meets its contract. Assumes nothing.
use mathlib.Core.Path.{◌≡◌, sym}
use mathlib.Core.List.{List}
use Prim.Native.Nat.{ℕ, ◌-◌}
use native.Mathlib.Omega.{arith}
use borrow.Author.Rules.{rules}
use lib.ListN.{length}
use Rattle.size_classes.specs.SlotSizes.{slot_size, last_size, least_alignment, largest_slot, Admissible}
use Rattle.size_classes.proofs.RaisedLaws.{raised_ge, raised_last}
use Rattle.size_classes.proofs.ClassLaws.{too_large_size, too_large_align}
use Rattle.class_lookup.specs.Lookup.{lookup_table, ClassTables}
use Rattle.class_choice.proofs.ChoiceLaws.{bucket_entry, small_answer, search_entry, large_answer}
use Rattle.class_choice.proofs.Classes.class_of.Goals as goal

-- what the two tests compare with
last_of : (sizes : List ℕ) (n r : ℕ) → n ≡ length sizes → r ≡ slot_size sizes (n - 1) → r ≡ last_size sizes
last_of sizes n r p q = rw p at q

tables_of : (sizes lookup : List ℕ) → Admissible sizes → lookup ≡ lookup_table sizes → ClassTables sizes lookup
tables_of sizes lookup p q = record { admissible = p; right = q }

pub returns-then-last-size : goal.returns-then-last-size
returns-then-last-size c =
    let last = last_of _ _ _ c.classes.ensures.count c.slot-last.ensures.size in
    rw (← c.self.view_is) (sym (too_large_size _ _ _ (omega (arith, last, c.if-last-size.true))))

pub returns-then-last-alignment : goal.returns-then-last-alignment
returns-then-last-alignment c =
    let last = last_of _ _ _ c.classes.ensures.count c.slot-last.ensures.size in
    rw (← c.self.view_is) (sym (too_large_align _ _ _ (omega (arith, last, raised_ge c.args.alignment (search rules)))))

pub entry-class-requires : goal.entry-class-requires
entry-class-requires c =
    let last = last_of _ _ _ c.classes.ensures.count c.slot-last.ensures.size in
    rw c.bucket.ensures (bucket_entry _ (omega (arith, last, c.classes.ensures.admissible.largest)))

pub returns-then-alignment-le-LEAST_ALIGNMENT : goal.returns-then-alignment-le-LEAST_ALIGNMENT
unfolding least_alignment
returns-then-alignment-le-LEAST_ALIGNMENT c =
    let last = last_of _ _ _ c.classes.ensures.count c.slot-last.ensures.size in
    rw (← c.self.view_is, c.entry-class.ensures, c.bucket.ensures)
    (small_answer _ _ (tables_of _ _ c.classes.ensures.admissible c.self.invariant) _ (omega (arith, last)) _ (omega arith))

pub raise-raised-requires : goal.raise-raised-requires
unfolding largest_slot
raise-raised-requires c =
    let last = last_of _ _ _ c.classes.ensures.count c.slot-last.ensures.size in
    omega (arith, last, c.classes.ensures.admissible.largest)

pub entry-start-requires : goal.entry-start-requires
entry-start-requires c =
    let last = last_of _ _ _ c.classes.ensures.count c.slot-last.ensures.size in
    let ok = c.classes.ensures.admissible in
    let h = raised_last _ ok c.args.alignment (omega (arith, last)) in
    rw c.bucket-2.ensures (bucket_entry _ (omega (arith, last, h, c.max.ensures, c.raise-raised.ensures, ok.largest)))

pub aligned_from-class-requires : goal.aligned_from-class-requires
aligned_from-class-requires c =
    let last = last_of _ _ _ c.classes.ensures.count c.slot-last.ensures.size in
    rw (c.entry-start.ensures, c.bucket-2.ensures, c.max.ensures, c.raise-raised.ensures)
    (search_entry _ _ (tables_of _ _ c.classes.ensures.admissible c.self.invariant) _ (omega (arith, last)) _ (omega (arith, last)))

pub returns : goal.returns
returns c =
    let last = last_of _ _ _ c.classes.ensures.count c.slot-last.ensures.size in
    rw (← c.self.view_is, c.aligned_from-class.ensures, c.entry-start.ensures, c.bucket-2.ensures, c.max.ensures, c.raise-raised.ensures)
    (large_answer _ _ (tables_of _ _ c.classes.ensures.admissible c.self.invariant) _ (omega (arith, last)) _ (omega (arith, last)))
