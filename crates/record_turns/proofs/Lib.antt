mod AgainSteps
mod TurnSteps
