-- Steps, and lists of them: what one step of a world changes (`Moves`), who makes it (`Makers`), what a reminder sends and what
-- comes of a message that arrives (`Arrivals`), and what a few of these make of a world (`Exchanges`).
--
-- What holds all along a list of steps, or comes of a step in its middle, is said by `Along`: `along-or` is "K holds all along,
-- or A at the end", and a `Spot` is a place in a list. Most files of the other folders are about lists of steps, and use both.
--
-- Nothing here is about rounds. What holds after every run is in `invariants`.
pub mod Along
pub mod Arrivals
pub mod Exchanges
pub mod Lists
pub mod Makers
pub mod Moves
