pub mod Adding
pub mod Arguments
pub mod OpLines
pub mod Ending
pub mod LineLoop
pub mod LinesOut
pub mod Overlaid
pub mod LinesPut
pub mod Overwritten
pub mod Answered
mod Rejoined
mod Frames
mod Numbers
mod OpLetters
mod OpTexts
mod Places
mod LastTask
mod LineTexts
pub mod Landing
mod ReadThere
mod Lengths
mod OwnLines
mod WrittenBack
mod RoundTrips
