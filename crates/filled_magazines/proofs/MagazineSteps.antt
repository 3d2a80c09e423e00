-- A push, a pop and a draw keep a table filled: the block pushed becomes cached, the one popped or drawn becomes out, and every other keeps its state.
-- Assumes nothing.
use mathlib.Core.Path.{◌≡◌, refl, sym, ◌∙◌}
use Prim.Native.Nat.{ℕ, ◌-◌, ◌<◌}
use native.Mathlib.Omega.{arith}
use Rattle.size_classes.specs.Slots.{most_slots}
use Rattle.tables.specs.declared.ClassHeap.{ClassHeap}
use Rattle.tables.specs.Shape.{Shape, classes, class_heap}
use Rattle.tables.specs.Cells.{Tables, count_at, entry_at, entry_of, entry_span, entry_slot}
use Rattle.tables.proofs.CellLaws.{entry_span_lem, entry_slot_lem}
use Rattle.magazine.specs.Magazine.{push_entry, top_entry, pop_entry, drawn_at, draw_entry}
use Rattle.magazine.specs.Held.{Among}
use Rattle.magazine.proofs.MagazineLaws.{push_each, push_kept, push_new, push_from, push_distinct, pop_each, pop_from, pop_kept, pop_gone, pop_distinct, drawn_below, draw_each, draw_from, draw_kept, draw_gone, draw_distinct}
use Rattle.magazine.proofs.OtherMagazines.{push_only, pop_only, draw_only, push_room, pop_room, draw_room}
use Rattle.span.specs.declared.BlockState.TheVariants.{Cached, Out}
use Rattle.span.specs.State.{state_of}
use Rattle.sound.specs.Sound.{Belongs, EntrySound}
use Rattle.sound.specs.Filled.{Filled}
use Rattle.sound.specs.States.{Becomes, Block}
use Rattle.sound.proofs.StateTests.{cached_no_out, out_says}
use Rattle.sound.proofs.StatesLaws.{becomes_this}
use Rattle.filled_magazines.specs.Pushable.{OutEntry}
use Rattle.filled_magazines.proofs.FilledFacts.{slots_within, filled_room, filled_distinct, filled_entry}
use Rattle.filled_magazines.proofs.StateLaws.{among_is_cached, entry_is_cached}
use Rattle.filled_magazines.proofs.SameSpans.{same_belongs, same_entry}
use Rattle.filled_magazines.proofs.OneMagazine.{only_spans, only_filled, enters, leaves}

-- ---- an entry that may be pushed

-- It is sound.
pub out_entry_sound : {g : Shape} {t : Tables} {k : ClassHeap} {e : ℕ} → OutEntry g t k e → EntrySound t k e
out_entry_sound {g} {t} {k} {e} m =
    let r = out_says g t (entry_span e) (entry_slot e) m.out in
    record { belongs = m.belongs; in_range = m.in_range; occupied = r.occupied; not_pending = r.not_pending }

-- It is the entry of such a block.
pub block_out_entry :
    (g : Shape) (t : Tables) (h c s : ℕ) {q : ℕ} →
    Belongs t (class_heap g h c) s →
    q < (class_heap g h c).slots →
    state_of g t s q ≡ Out →
    OutEntry g t (class_heap g h c) (entry_of s q)
block_out_entry g t h c s {q} b l out =
    let w : q < most_slots = omega (arith, slots_within g h c) in
    record {
      belongs = rw (entry_span_lem s w) b;
      in_range = rw (entry_slot_lem s w) l;
      out = rw (entry_span_lem s w, entry_slot_lem s w) out;
    }

module _ {g : Shape} {t : Tables} (o : Filled g t) {h c : ℕ} (hh : h < g.heaps) (hc : c < classes g) where
  -- It stands in no magazine yet.
  pub out_entry_in_none : {e : ℕ} → OutEntry g t (class_heap g h c) e → Among t (class_heap g h c) e → ⊥
  out_entry_in_none m a = cached_no_out (sym (among_is_cached o hh hc a) ∙ m.out)

  -- ---- push

  module _ {e : ℕ} (m : OutEntry g t (class_heap g h c) e) (free : count_at t (class_heap g h c) < (class_heap g h c).capacity) where
    pub push_out_filled : Filled g (push_entry t (class_heap g h c) e)
    push_out_filled =
        let k = class_heap g h c in
        let room = filled_room o hh hc in
        let only = push_only t k e free in
        let still = same_entry (only_spans o hh hc only) k in
        only_filled o hh hc only
        (record {
          count = (push_room t k room e free).held;
          entries =
              push_each t k room e free (EntrySound (push_entry t k e) k) (λ i l. still (entry_at t k i) (filled_entry o hh hc i l))
              (still e (out_entry_sound m));
          distinct = (push_distinct t k room e free (filled_distinct o hh hc) (out_entry_in_none m)).apart;
        })

    pub push_out_becomes : Becomes g t (push_entry t (class_heap g h c) e) (Block (entry_span e) (entry_slot e)) Cached
    push_out_becomes =
        let k = class_heap g h c in
        let room = filled_room o hh hc in
        enters o hh hc (push_only t k e free) push_out_filled (push_new t k room e free) (push_kept t k room e free) (push_from t k room e free)

  -- The same, of the block itself.
  module _ {s q : ℕ} (b : Belongs t (class_heap g h c) s) (l : q < (class_heap g h c).slots) (out : state_of g t s q ≡ Out)
      (free : count_at t (class_heap g h c) < (class_heap g h c).capacity) where
    pub push_entry_filled : Filled g (push_entry t (class_heap g h c) (entry_of s q))
    push_entry_filled = push_out_filled (block_out_entry g t h c s b l out) free

    pub push_entry_becomes : Becomes g t (push_entry t (class_heap g h c) (entry_of s q)) (Block s q) Cached
    push_entry_becomes =
        let w : q < most_slots = omega (arith, slots_within g h c) in
        let r = push_out_becomes (block_out_entry g t h c s b l out) free in
        rw (entry_span_lem s w, entry_slot_lem s w) at r

  -- ---- pop

  module _ (some : 0 < count_at t (class_heap g h c)) where
    -- The top entry names a cached block.
    pub top_is_cached :
        state_of g t (entry_span (top_entry t (class_heap g h c))) (entry_slot (top_entry t (class_heap g h c))) ≡ Cached
    top_is_cached = entry_is_cached o hh hc (count_at t (class_heap g h c) - 1) (omega arith)

    pub top_sound : EntrySound t (class_heap g h c) (top_entry t (class_heap g h c))
    top_sound = filled_entry o hh hc (count_at t (class_heap g h c) - 1) (omega arith)

    pub pop_entry_filled : Filled g (pop_entry t (class_heap g h c))
    pop_entry_filled =
        let k = class_heap g h c in
        let room = filled_room o hh hc in
        let still = same_entry (only_spans o hh hc (pop_only t k)) k in
        only_filled o hh hc (pop_only t k)
        (record {
          count = (pop_room t k room some).held;
          entries =
              pop_each t k room some (EntrySound (pop_entry t k) k) (λ i l. still (entry_at t k i) (filled_entry o hh hc i l));
          distinct = (pop_distinct t k room some (filled_distinct o hh hc)).apart;
        })

    pub pop_entry_becomes :
        Becomes g t (pop_entry t (class_heap g h c))
        (Block (entry_span (top_entry t (class_heap g h c))) (entry_slot (top_entry t (class_heap g h c)))) Out
    pop_entry_becomes =
        let k = class_heap g h c in
        let room = filled_room o hh hc in
        leaves o hh hc (pop_only t k) (record { place = count_at t k - 1; below = omega arith; is = refl })
        (pop_gone t k room some (filled_distinct o hh hc)) (pop_kept t k room some) (pop_from t k room some)

    -- The popped entry may be pushed again.
    pub popped_out : OutEntry g (pop_entry t (class_heap g h c)) (class_heap g h c) (top_entry t (class_heap g h c))
    popped_out =
        let k = class_heap g h c in
        record {
          belongs = same_belongs (only_spans o hh hc (pop_only t k)) k (entry_span (top_entry t k)) top_sound.belongs;
          in_range = top_sound.in_range;
          out = becomes_this pop_entry_becomes top_sound.belongs.used (omega (arith, top_sound.in_range, slots_within g h c));
        }

    -- ---- draw

    module _ (word : ℕ) where
      -- The drawn entry names a cached block.
      pub drawn_is_cached :
          state_of g t (entry_span (entry_at t (class_heap g h c) (drawn_at t (class_heap g h c) word)))
          (entry_slot (entry_at t (class_heap g h c) (drawn_at t (class_heap g h c) word))) ≡ Cached
      drawn_is_cached =
          let k = class_heap g h c in
          entry_is_cached o hh hc (drawn_at t k word) (drawn_below t k (filled_room o hh hc) some word)

      pub drawn_sound : EntrySound t (class_heap g h c) (entry_at t (class_heap g h c) (drawn_at t (class_heap g h c) word))
      drawn_sound =
          let k = class_heap g h c in
          filled_entry o hh hc (drawn_at t k word) (drawn_below t k (filled_room o hh hc) some word)

      pub draw_entry_filled : Filled g (draw_entry t (class_heap g h c) word)
      draw_entry_filled =
          let k = class_heap g h c in
          let room = filled_room o hh hc in
          let only = draw_only t k word room some in
          let still = same_entry (only_spans o hh hc only) k in
          only_filled o hh hc only
          (record {
            count = (draw_room t k room some word).held;
            entries =
                draw_each t k room some word (EntrySound (draw_entry t k word) k)
                (λ i l. still (entry_at t k i) (filled_entry o hh hc i l));
            distinct = (draw_distinct t k room some word (filled_distinct o hh hc)).apart;
          })

      pub draw_entry_becomes :
          Becomes g t (draw_entry t (class_heap g h c) word)
          (Block (entry_span (entry_at t (class_heap g h c) (drawn_at t (class_heap g h c) word)))
          (entry_slot (entry_at t (class_heap g h c) (drawn_at t (class_heap g h c) word)))) Out
      draw_entry_becomes =
          let k = class_heap g h c in
          let room = filled_room o hh hc in
          leaves o hh hc (draw_only t k word room some)
          (record { place = drawn_at t k word; below = drawn_below t k room some word; is = refl })
          (draw_gone t k room some word (filled_distinct o hh hc)) (draw_kept t k room some word) (draw_from t k room some word)

      -- The drawn entry may be pushed again.
      pub drawn_out :
          OutEntry g (draw_entry t (class_heap g h c) word) (class_heap g h c)
          (entry_at t (class_heap g h c) (drawn_at t (class_heap g h c) word))
      drawn_out =
          let k = class_heap g h c in
          let only = draw_only t k word (filled_room o hh hc) some in
          record {
            belongs = same_belongs (only_spans o hh hc only) k (entry_span (entry_at t k (drawn_at t k word))) drawn_sound.belongs;
            in_range = drawn_sound.in_range;
            out = becomes_this draw_entry_becomes drawn_sound.belongs.used (omega (arith, drawn_sound.in_range, slots_within g h c));
          }
