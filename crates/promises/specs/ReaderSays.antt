-- What a caller may rely on after a call of the two functions that have a row reader: what their `ensures` say, and nothing else, as the
-- toolchain's own statement of each contract shows (`refl`).
use Rattle.std.specs.Prelude.{◌≡◌, refl}
use Rattle.listing.specs.Computed.Reader.{place_of}
use Rattle.listing.specs.Computed.Turns.{row_turn}
use Rattle.listing.specs.declared.rows.RowTurn.{RowTurn}
use Rattle.listing.specs.contracts.reader.next_row as next_row
use Rattle.listing.specs.contracts.reader.reader_of as reader_of
use Rattle.promises.specs.ByClauses.{Stated, Plainly}

abbrev pub reader_clauses : Stated reader_of.ended
reader_clauses 𝓤 𝓛 = reader_of.clauses 𝓛

abbrev pub turn_clauses : Stated next_row.ended
turn_clauses 𝓤 𝓛 = next_row.clauses 𝓛

abbrev pub reader_says : Plainly reader_of.ended reader_clauses
reader_says =
    record {
      Learnt = λ κs a z e. (z.section ≡ a.0) × (z.place ≡ place_of a.0.now a.1.0);
      ensures = λ κs a g z e. refl;
    }

abbrev pub turn_says : Plainly next_row.ended turn_clauses
turn_says =
    record {
      Learnt = λ κs a z e.
          (e.0.now.section ≡ a.0.now.section)
          × (◌≡◌ {A = RowTurn} (record { next = z; place = e.0.now.place }) (row_turn a.0.now.section.now a.0.now.place));
      ensures = λ κs a g z e. refl;
    }
