-- Dead clients. The *shade* of a world has the dead clients idle, and RELEASEs of who is not live were sent in it before all else.
--
-- Each move of the world is a step of the shade (`Shade`), and live rounds of moves are live rounds of steps there
-- (`ShadeRounds`). A world and its shade have the same voters and the same live clients. So the laws on live rounds of steps, in
-- which who is not live is idle, are laws on live rounds of moves, in which clients died while they asked or were inside
-- (`Shaded`).
--
-- A grant that is let go is the arrival of one of these RELEASEs.
pub mod Shade
pub mod ShadeRounds
pub mod Shaded
