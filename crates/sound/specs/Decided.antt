-- Soundness is decided: the decision computes, and the calls test it. Assumes nothing.
use Rattle.std.specs.Prelude.{Bool, true, false, not, ℕ, ◌^◌, eqb}
use Rattle.std.proofs.Math.Bool.{Bool-discrete}
use Rattle.std.proofs.Math.Decide.{dec_lt, dec_le, ℕ_discrete}
use Rattle.laws.specs.Choice.{is_yes}
use Rattle.laws.specs.Decide.{both, three, same, given, never, below, all_of, chain}
use Rattle.laws.specs.Word.{all_ones, is_set}
use Rattle.size_classes.specs.Slots.{most_slots}
use Rattle.tables.specs.declared.ClassHeap.{ClassHeap}
use Rattle.tables.specs.Shape.{Shape, classes, class_heap, bitmap_cells}
use Rattle.tables.specs.Cells.{Tables, bitmap_word, local_summary, local_word, remote_summary, remote_word, class_at, owner_at, occupied_at, previous_at, next_at, head_at, partial_list, full_list, empty_list, reserve, count_at, entry_at, entry_span, entry_slot}
use Rattle.linked_list.specs.Lists.{list_of}
use Rattle.span.specs.State.{is_occupied, is_pending}
use Rattle.sound.specs.Sound.{home_of, set_bits, places_in, SpanFilled, SpanSound, Belongs, EntrySound, MagazineSound, ListSound, ClassSound, Sound}

unfoldable pub span_filled : (g : Shape) (t : Tables) (s : ℕ) → Dec (SpanFilled g t s)
span_filled g t s =
    same
    (λ r.
    record {
      class = r.0.0;
      owner = r.0.1;
      word = r.1.0;
      occupied = r.1.1;
      past = r.1.2;
      summary = r.2.0;
      remote = r.2.1;
      pending = r.2.2;
    })
    (λ r. ((r.class, r.owner), (r.word, r.occupied, r.past), (r.summary, r.remote, r.pending)))
    (three
    (both (dec_lt (class_at t s) (classes g)) (dec_lt (owner_at t s) g.heaps))
    (three (below (λ i. dec_lt (bitmap_word t s i) (2 ^ 64)) bitmap_cells)
    (ℕ_discrete (occupied_at t s) (set_bits t s (home_of g t s).slots))
    (below (λ q. given (dec_le (home_of g t s).slots q) (Bool-discrete (is_occupied t s q) true)) most_slots))
    (three
    (below (λ i. Bool-discrete (is_set (bitmap_word t s local_summary) i) (eqb (bitmap_word t s (local_word i)) all_ones)) 64)
    (below (λ i. Bool-discrete (is_set (bitmap_word t s remote_summary) i) (not (eqb (bitmap_word t s (remote_word i)) 0))) 64)
    (below
    (λ q. given (Bool-discrete (is_pending t s q) true) (both (dec_lt q (home_of g t s).slots) (Bool-discrete (is_occupied t s q) true)))
    most_slots)))

unfoldable pub span_sound : (g : Shape) (t : Tables) (s : ℕ) → Dec (SpanSound g t s)
unfolding span_filled
span_sound g t s =
    same (λ r. record { cells = r.0; listed = r.1 }) (λ r. (r.cells, r.listed))
    (both (span_filled g t s) (ℕ_discrete (places_in t (home_of g t s) s) 1))

unfoldable pub belongs : (t : Tables) (k : ClassHeap) (s : ℕ) → Dec (Belongs t k s)
belongs t k s =
    same (λ r. record { used = r.0; class = r.1; owner = r.2 }) (λ r. (r.used, r.class, r.owner))
    (three (dec_lt s t.used) (ℕ_discrete (class_at t s) k.class) (ℕ_discrete (owner_at t s) k.owner))

unfoldable pub list_sound :
    (t : Tables) (k : ClassHeap) (f : ℕ) {Named : ℕ → Type 0} → ((n : ℕ) → Dec (Named n)) → Dec (ListSound t k f Named)
unfolding belongs chain
list_sound t k f named =
    same (λ r. record { linked = r.0; own = r.1; named = r.2 }) (λ r. (r.linked, r.own, r.named))
    (three (chain (previous_at t) (next_at t) 0 (head_at t k f) (list_of t k f)) (all_of (belongs t k) (list_of t k f))
    (all_of (λ s. named (occupied_at t s)) (list_of t k f)))

unfoldable pub entry_sound : (t : Tables) (k : ClassHeap) (e : ℕ) → Dec (EntrySound t k e)
unfolding belongs
entry_sound t k e =
    same
    (λ r. record { belongs = r.0; in_range = r.1; occupied = r.2.0; not_pending = r.2.1 })
    (λ r. (r.belongs, r.in_range, (r.occupied, r.not_pending)))
    (three (belongs t k (entry_span e)) (dec_lt (entry_slot e) k.slots)
    (both (Bool-discrete (is_occupied t (entry_span e) (entry_slot e)) true)
    (Bool-discrete (is_pending t (entry_span e) (entry_slot e)) false)))

unfoldable pub magazine_sound : (t : Tables) (k : ClassHeap) → Dec (MagazineSound t k)
unfolding entry_sound
magazine_sound t k =
    same (λ r. record { count = r.0; entries = r.1; distinct = r.2 }) (λ r. (r.count, r.entries, r.distinct))
    (three (dec_le (count_at t k) k.capacity) (below (λ i. entry_sound t k (entry_at t k i)) (count_at t k))
    (below (λ j. below (λ i. never (ℕ_discrete (entry_at t k i) (entry_at t k j))) j) (count_at t k)))

unfoldable pub class_sound : (t : Tables) (k : ClassHeap) → Dec (ClassSound t k)
unfolding list_sound magazine_sound
class_sound t k =
    same
    (λ r.
    record { partial = r.0.0; full = r.0.1; empty = r.0.2; kept = r.1.0; alone = r.1.1; magazine = r.2 })
    (λ r. ((r.partial, r.full, r.empty), (r.kept, r.alone), r.magazine))
    (three
    (three (list_sound t k partial_list (λ n. both (dec_lt 0 n) (dec_lt n k.slots))) (list_sound t k full_list (λ n. ℕ_discrete n k.slots))
    (list_sound t k empty_list (λ n. ℕ_discrete n 0)))
    (both (list_sound t k reserve (λ n. ℕ_discrete n 0)) (all_of (λ s. ℕ_discrete (next_at t s) 0) (list_of t k reserve)))
    (magazine_sound t k))

unfoldable pub sound : (g : Shape) (t : Tables) → Dec (Sound g t)
unfolding span_sound class_sound
sound g t =
    same
    (λ r. record { within = r.0; spans = r.1; class_heaps = r.2 })
    (λ r. (r.within, r.spans, r.class_heaps))
    (three (dec_le t.used g.spans) (below (span_sound g t) t.used)
    (below (λ h. below (λ c. class_sound t (class_heap g h c)) (classes g)) g.heaps))

-- the test that the calls make
unfoldable pub is_sound : Shape → Tables → Bool
unfolding sound
is_sound g t = is_yes (sound g t)
