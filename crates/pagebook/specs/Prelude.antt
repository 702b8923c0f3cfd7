-- The words of the contracts, from one place.
pub use Rattle.core.specs.declared.option.Option.TheVariants.{Some}
pub use Rattle.pagebook.specs.Owned.{blanks_own, pens_own, seen_owns, word_pen, word_shares}
pub use Rattle.pagebook.specs.Pages.{Book, book_coded, View, Moves, Sure, Held, held_coded, Named, named_coded, Notes}
pub use Rattle.pagebook.specs.Pages.{dealt, IsKey, LockKey, lock_key_coded, of_book, of_numbers}
pub use Rattle.pagebook.specs.Slot.{Placed, placed_coded, Rest, resting, shared, written}
pub use base.Fml.{fsep, fex}
pub use base.Stored.{coded_list, coded_ℕ}
pub use denote.Sharing.{said}
pub use mathlib.Core.List.{IsPrefix}
pub use prog.Atomic.{either}
