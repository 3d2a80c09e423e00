-- The same tables are lent, from call to call. Assumes nothing.
use mathlib.Core.Path.{refl, ◌∙◌}
use Rattle.tables.specs.declared.LentTables.{LentTables}
use Rattle.tables.specs.Lent.{SameLent}

pub lent_same : {a : LentTables} → SameLent a a
lent_same = record { bits = refl; spans = refl; entries = refl; heads = refl; used = refl }

pub lent_on : {a b c : LentTables} → SameLent a b → SameLent b c → SameLent a c
lent_on p q =
    record {
      bits = q.bits ∙ p.bits;
      spans = q.spans ∙ p.spans;
      entries = q.entries ∙ p.entries;
      heads = q.heads ∙ p.heads;
      used = q.used ∙ p.used;
    }
