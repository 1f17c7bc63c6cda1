mod BegunResponses
mod OneReading
mod Paths
mod MessagePhases
mod SaidTexts
mod Unambiguous
