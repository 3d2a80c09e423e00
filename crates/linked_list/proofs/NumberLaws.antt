-- The number of a list is where it stands among the heads of its row. Assumes nothing.
use mathlib.Core.Path.{◌≡◌, refl}
use denote.Enum.Declared.{tag_of}
use Rattle.tables.specs.contracts.SpanList.{the_type}
use Rattle.tables.specs.declared.SpanList.{SpanList}
use Rattle.tables.specs.declared.SpanList.TheVariants.{Partial, Full, Empty, Reserve}
use Rattle.tables.specs.ListPlace.{place}

pub number_place : (l : SpanList) → tag_of the_type l ≡ place l
number_place Partial = refl
number_place Full = refl
number_place Empty = refl
number_place Reserve = refl
