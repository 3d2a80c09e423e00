-- `sound_calls::allocate_sound` meets its contract, by its tests. Assumes nothing.
use mathlib.Core.Path.{sym, ◌∙◌}
use native.Mathlib.Omega.{arith}
use Rattle.calls.specs.Calls.{words_needed}
use Rattle.sound_calls.proofs.LentLaws.{lent_heaps, lent_working, lent_fronts, lent_words}
use Rattle.sound_calls.proofs.AllocationTests.{none_is, found_class, no_heap_lem, few_words_lem, too_large_lem, in_class_lem}
use Rattle.sound_calls.proofs.allocate_sound.Goals as goal

pub returns-then-heap-shape-clause-ended : goal.returns-then-heap-shape-clause-ended
returns-then-heap-shape-clause-ended c = rw (← c.shape.view_is) (no_heap_lem _ _ _ _ _ _ c.if-heap-shape.true)

pub returns-then-words-lt-WORDS_NEEDED-clause-ended : goal.returns-then-words-lt-WORDS_NEEDED-clause-ended
unfolding words_needed
returns-then-words-lt-WORDS_NEEDED-clause-ended c =
    rw (← c.shape.view_is) (few_words_lem _ _ _ _ _ _ (omega (arith, c.if-heap-shape.false)) c.if-words-lt-WORDS_NEEDED.true)

pub returns-in_default-clause-ended : goal.returns-in_default-clause-ended
unfolding words_needed
returns-in_default-clause-ended c =
    let class = rw c.requires.sizes at c.class_of.ensures in
    let none = sym class ∙ none_is _ c.in_default.not-Some in
    rw (← c.shape.view_is)
    (too_large_lem _ _ _ _ _ _ (omega (arith, c.if-heap-shape.false)) (omega (arith, c.if-words-lt-WORDS_NEEDED.false)) (rw (← c.shape.view_is) at none))

pub class_heap-k-requires : goal.class_heap-k-requires
class_heap-k-requires c =
    let x = rw (← c.shape.view_is) at c.requires.lent in
    let class = rw c.requires.sizes at c.in-Some.ensures in
    (lent_heaps x (omega (arith, c.if-heap-shape.false)), found_class _ x.sizes _ _ _ (sym (rw (← c.shape.view_is) at class)))

pub alloc_small-requires : goal.alloc_small-requires
unfolding words_needed
alloc_small-requires c =
    let a = c.args in
    let g = c.shape.inside in
    let x = rw (← c.shape.view_is) at c.requires.lent in
    let class = rw c.requires.sizes at c.in-Some.ensures in
    let hh = c.if-heap-shape.false in
    let hc = found_class _ x.sizes _ _ _ (sym (rw (← c.shape.view_is) at class)) in
    let k = c.class_heap-k.ensures g.most g.heaps g.spans in
    record {
      working = lent_working x (omega (arith, hh)) hc k;
      fronts = lent_fronts x (omega (arith, hh)) hc k _ _ _;
      capacity_in_bounds = lent_words x (omega (arith, hh)) hc k a.words.now (omega (arith, c.if-words-lt-WORDS_NEEDED.false));
    }

pub returns-clause-ended : goal.returns-clause-ended
unfolding words_needed
returns-clause-ended c =
    let g = c.shape.inside in
    let class = rw c.requires.sizes at c.in-Some.ensures in
    let k = c.class_heap-k.ensures g.most g.heaps g.spans in
    rw (← c.shape.view_is)
    (in_class_lem _ _ _ _ _ _ (omega (arith, c.if-heap-shape.false)) (omega (arith, c.if-words-lt-WORDS_NEEDED.false)) _ _ _
    (sym (rw (← c.shape.view_is) at class)) k c.alloc_small.ensures.ended)
