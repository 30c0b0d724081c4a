-- How a core is stored, as the tuple of its parts.
use Rattle.std.specs.Prelude.{ℕ, Bool, List, Option, refl}
use Rattle.std.specs.Coded.{Coded, code_by, coded×, coded_ℕ, coded_bool, coded_list, coded_option}
use Rattle.dk_si.specs.declared.database.Table.{Table}
use Rattle.dk_si.specs.declared.history.Entry.{Entry}
use Rattle.dk_si.specs.declared.machine.Machine.{Machine}
use Rattle.dk_si.specs.declared.standing.Flight.{Flight}
use Rattle.dk_si.specs.declared.standing.Need.{Need}
use Rattle.dk_si.specs.declared.standing.Written.{Written}
use Rattle.dk_si.specs.contracts.database.Table as table
use Rattle.dk_si.specs.contracts.history.Entry as entry
use Rattle.dk_si.specs.contracts.machine.Machine as machine
use Rattle.dk_si.specs.contracts.standing.Flight as flight
use Rattle.dk_si.specs.contracts.standing.Need as need
use Rattle.dk_si.specs.contracts.standing.Written as written
use Rattle.dk_si.specs.Standing.{FullStanding}
use Rattle.dk_core.specs.declared.seat.Seat.{Seat}
use Rattle.dk_core.specs.contracts.seat.Seat as seat
use Rattle.dk_core.specs.Core.{Core}

-- ---- what stands of stops and iterations

abbrev pub StandingParts : Type 0
StandingParts = ℕ × (Option ℕ × (Bool × (List Flight × (List Written × List Need))))

abbrev pub coded_standing_parts : Coded StandingParts
coded_standing_parts = coded× coded_ℕ (coded× (coded_option coded_ℕ) (coded× coded_bool
    (coded× (coded_list flight.the_row.coded) (coded× (coded_list written.the_row.coded)
    (coded_list need.the_row.coded)))))

abbrev pub standing_parts : FullStanding → StandingParts
standing_parts s = (s.place, (s.stop, (s.stopped, (s.flights, (s.written, s.needs)))))

abbrev pub of_standing_parts : StandingParts → FullStanding
of_standing_parts parts = record {
  place = parts.0;
  stop = parts.1.0;
  stopped = parts.1.1.0;
  flights = parts.1.1.1.0;
  written = parts.1.1.1.1.0;
  needs = parts.1.1.1.1.1;
}

abbrev pub coded_standing : Coded FullStanding
coded_standing = code_by StandingParts coded_standing_parts standing_parts of_standing_parts (λ standing. refl)

-- ---- the core

abbrev pub CoreParts : Type 0
CoreParts = List Table × (ℕ × (ℕ × (List Entry × (FullStanding × (Machine × (List Seat × List (List ℕ)))))))

abbrev pub coded_parts : Coded CoreParts
coded_parts = coded× (coded_list table.the_row.coded)
    (coded× coded_ℕ (coded× coded_ℕ (coded× (coded_list entry.the_row.coded)
    (coded× coded_standing (coded× machine.the_row.coded
    (coded× (coded_list seat.the_row.coded) (coded_list (coded_list coded_ℕ))))))))

abbrev pub parts_of : Core → CoreParts
parts_of core = (
  core.opened,
  (
    core.iteration,
    (
      core.sessions,
      (
        core.entries,
        (
          core.standing,
          (
            core.now,
            (
              core.seats,
              core.layout,
            ),
          ),
        ),
      ),
    ),
  ),
)

abbrev pub of_parts : CoreParts → Core
of_parts parts = record {
  opened = parts.0;
  iteration = parts.1.0;
  sessions = parts.1.1.0;
  entries = parts.1.1.1.0;
  standing = parts.1.1.1.1.0;
  now = parts.1.1.1.1.1.0;
  seats = parts.1.1.1.1.1.1.0;
  layout = parts.1.1.1.1.1.1.1;
}

abbrev pub core_code : Coded Core
core_code = code_by CoreParts coded_parts parts_of of_parts (λ core. refl)
