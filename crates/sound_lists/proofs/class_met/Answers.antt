-- `sound_lists::class_met` meets its contract: four walks, and the reserve's span apart from the empty list. Assumes nothing.
use borrow.Author.Tests.{eq-eqb}
use mathlib.Core.Path.{◌≡◌, sym, ap, ◌∙◌}
use mathlib.Core.Bool.{not, true≢false}
use mathlib.Core.List.{List}
use Prim.Native.Nat.{ℕ, ◌+◌, ◌^◌, ◌<◌}
use native.Mathlib.Omega.{arith}
use Rattle.size_classes.specs.Slots.{most_slots}
use Rattle.tables.specs.declared.ClassHeap.{ClassHeap}
use Rattle.tables.specs.Cells.{Tables, head_at, partial_list, full_list, empty_list, reserve}
use Rattle.sound_lists.specs.Walked.{ClassCells}
use Rattle.sound_lists.proofs.WalkLaws.{used_small, list_few}
use Rattle.sound_lists.proofs.ClassTests.{class_right, full_fault, empty_fault, kept_fault, more_fault}
use Rattle.sound_lists.proofs.class_met.Goals as goal
use Rattle.sound_lists.proofs.class_met.Goals.{Else-not-apart, then-first-eq0, else-first-eq0}

-- A span has fewer slots than a word has numbers.
slots_small : {heads : List ℕ} {k : ClassHeap} → ClassCells heads k → k.slots + 1 < 2 ^ 64
unfolding most_slots
slots_small o = omega (arith, o.slots)

pub overflow_add-k : goal.overflow_add-k
overflow_add-k c = omega (arith, slots_small c.requires.class_cells)

pub returns-in_err-full : goal.returns-in_err-full
returns-in_err-full c = rw c.from_residual-in_err-full.ensures (full_fault c.args.view.now c.args.k c.in_err-full.ensures)

pub returns-in_err-empty : goal.returns-in_err-empty
returns-in_err-empty c = rw c.from_residual-in_err-empty.ensures (empty_fault c.args.view.now c.args.k c.in_err-empty.ensures)

pub returns-in_err-kept : goal.returns-in_err-kept
returns-in_err-kept c = rw c.from_residual-in_err-kept.ensures (kept_fault c.args.view.now c.args.k c.in_err-kept.ensures)

pub returns-then-kept-gt1 : goal.returns-then-kept-gt1
returns-then-kept-gt1 c = more_fault c.args.view.now c.args.k c.in_ok-kept.ensures.1 c.if-kept-gt1.true

-- No list has more spans than are used, so the sum of all fits.
all_fit : (c : Else-not-apart) → c.in_ok-partial.partial + c.in_ok-full.full + c.in_ok-empty.empty + c.in_ok-kept.kept < 2 ^ 64
all_fit c =
    let a = c.args in
    let t = a.view.now in
    omega (
      arith,
      used_small (rw (← c.view.view_is) at c.requires.used_fields),
      ap (λ (t : Tables). t.used) c.view.view_is,
      c.in_ok-partial.ensures.1,
      list_few t a.k partial_list,
      c.in_ok-full.ensures.1,
      list_few t a.k full_list,
      c.in_ok-empty.ensures.1,
      list_few t a.k empty_list,
    )

pub overflow_add-result : goal.overflow_add-result
overflow_add-result c = omega (arith, all_fit c)

pub overflow_add-result-2 : goal.overflow_add-result-2
overflow_add-result-2 c = omega (arith, all_fit c)

pub overflow_add-result-3 : goal.overflow_add-result-3
overflow_add-result-3 c = omega (arith, all_fit c)

pub returns : goal.returns
returns c =
    let a = c.args in
    let front : c.front-first.result ≡ head_at a.view.now a.k reserve = rw (← c.view.view_is) c.front-first.ensures in
    class_right a.view.now a.k c.in_ok-partial.ensures c.in_ok-full.ensures c.in_ok-empty.ensures c.in_ok-kept.ensures c.if-kept-gt1.false
    (elim c.if-first-eq0.branch [
      | then-first-eq0 w ↦ λ z. sym front ∙ w.if-first-eq0.true
      | else-first-eq0 w ↦ λ z.
          absurd
          (true≢false
          (sym c.if-not-apart.false ∙ w.apart-is
          ∙ ap not (eq-eqb w.front.result c.front-first.result ((rw (← c.view.view_is) w.front.ensures) ∙ z ∙ sym front))))
    ])
