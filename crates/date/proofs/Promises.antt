-- What a person may count on in dates holds. Assumes nothing.
use mathlib.Core.Path.{ap}
use Rattle.date.specs.Calendar.{day_number}
use Rattle.date.specs.Promises.{CalendarHolds}
use Rattle.date.proofs.{Exactly.exists_exactly, Following.following}
use Rattle.date.proofs.Rising.{rising, rising_back, same_number, day_number_below}

pub calendar_holds : CalendarHolds
calendar_holds =
    record {
      exactly = exists_exactly;
      following = following;
      rising = λ d e p q. (rising d e p q, rising_back d e p q);
      same = λ d e p q. (ap day_number, same_number d e p q);
      small = day_number_below;
    }
