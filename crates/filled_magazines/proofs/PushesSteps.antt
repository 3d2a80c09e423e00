-- A run of pushes of distinct entries of blocks that are out keeps a table filled: these blocks become cached, and every other keeps its state.
-- Assumes nothing.
use mathlib.Core.Path.{◌≡◌, subst}
use mathlib.Core.Logic.{⊎_elim}
use mathlib.Core.List.{List}
use Prim.Native.Nat.{ℕ, ◌+◌, ◌<◌}
use lib.ListN.{length, get_or}
use Rattle.tables.specs.Shape.{Shape, classes, class_heap}
use Rattle.tables.specs.Cells.{Tables, count_at, entry_at, entry_of}
use Rattle.magazine.specs.Magazine.{push_entries}
use Rattle.magazine.specs.Held.{Among}
use Rattle.magazine.proofs.OtherMagazines.{pushes_only}
use Rattle.magazine.proofs.PushesLaws.{pushes_count, pushes_each, pushes_kept, pushes_among, pushes_from, pushes_distinct}
use Rattle.span.specs.declared.BlockState.TheVariants.{Cached}
use Rattle.sound.specs.Sound.{EntrySound}
use Rattle.sound.specs.Filled.{Filled}
use Rattle.sound.specs.States.{Becomes, EntriesOf}
use Rattle.filled_magazines.specs.Pushable.{Pushable}
use Rattle.filled_magazines.proofs.FilledFacts.{filled_room, filled_distinct, filled_entry}
use Rattle.filled_magazines.proofs.StateLaws.{block_is_cached}
use Rattle.filled_magazines.proofs.SameSpans.{same_entry}
use Rattle.filled_magazines.proofs.OneMagazine.{only_spans, only_filled, only_state}
use Rattle.filled_magazines.proofs.MagazineSteps.{out_entry_sound, out_entry_in_none}

module _ {g : Shape} {t : Tables} (o : Filled g t) {h c : ℕ} (hh : h < g.heaps) (hc : c < classes g) {es : List ℕ}
    (p : Pushable g t (class_heap g h c) es) where
  -- Each is counted.
  pub push_entries_count : count_at (push_entries es t (class_heap g h c)) (class_heap g h c) ≡ count_at t (class_heap g h c) + length es
  push_entries_count = pushes_count es t (class_heap g h c) (filled_room o hh hc) p.fits

  pub push_entries_filled : Filled g (push_entries es t (class_heap g h c))
  push_entries_filled =
      let k = class_heap g h c in
      let room = filled_room o hh hc in
      let only = pushes_only es t k room p.fits in
      let still = same_entry (only_spans o hh hc only) k in
      only_filled o hh hc only
      (record {
        count = rw push_entries_count p.fits;
        entries =
            pushes_each es t k room p.fits (EntrySound (push_entries es t k) k)
            (λ i l. still (entry_at t k i) (filled_entry o hh hc i l))
            (λ j l. still (get_or es j 0) (out_entry_sound (p.each j l)));
        distinct =
            (pushes_distinct es t k room p.fits (filled_distinct o hh hc) p.distinct
            (λ j l. out_entry_in_none o hh hc (p.each j l))).apart;
      })

  -- Their blocks become cached, and every other block of every used span keeps its state.
  pub push_entries_become : Becomes g t (push_entries es t (class_heap g h c)) (EntriesOf es) Cached
  push_entries_become =
      let k = class_heap g h c in
      let room = filled_room o hh hc in
      let only = pushes_only es t k room p.fits in
      record {
        named =
            λ x y hx hy n.
            block_is_cached push_entries_filled hh hc x hy
            (subst (Among (push_entries es t k) k) n.is (pushes_among es t k room p.fits n.place n.below));
        others =
            λ x y hx hy n.
            only_state o hh hc only x y hx (pushes_kept es t k room p.fits (entry_of x y))
            (λ a. ⊎_elim (λ s. s) (λ w. absurd (n (record { place = w.0; below = w.1; is = w.2 }))) (pushes_from es t k room p.fits (entry_of x y) a));
      }
